pub mod Rows
pub mod Numbered
pub mod Index
pub mod Answers
pub mod Laws
