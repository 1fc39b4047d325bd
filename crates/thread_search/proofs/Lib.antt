pub mod Gathering
pub mod Walked
pub mod Passing
