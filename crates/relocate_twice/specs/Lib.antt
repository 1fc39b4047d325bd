pub mod Twice
pub mod Without
