pub mod Layout
pub mod Places
pub mod Fronts
pub mod Steps
