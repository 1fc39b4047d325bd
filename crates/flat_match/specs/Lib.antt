pub mod Find
pub mod Code
