pub mod Linked
pub mod Code
