pub mod Thread
pub mod Code
pub mod Theorems
