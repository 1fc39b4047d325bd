pub mod Gathering
pub mod Moving
