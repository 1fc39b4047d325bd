pub mod Joined
pub mod Pointers
