pub mod Steps
pub mod All
pub mod Halving
