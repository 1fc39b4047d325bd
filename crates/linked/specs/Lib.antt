pub mod Linked
pub mod Find
pub mod Answers
pub mod Laws
