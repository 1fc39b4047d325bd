pub mod Explain
pub mod Rows
pub mod Laws
