pub mod Steps
pub mod Arrays
