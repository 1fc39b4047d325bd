pub mod Threads
pub mod Code
