pub mod Added
pub mod Turns
