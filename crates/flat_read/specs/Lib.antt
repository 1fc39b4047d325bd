pub mod Read
pub mod Code
