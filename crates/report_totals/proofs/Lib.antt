pub mod Functions
pub mod Whole
