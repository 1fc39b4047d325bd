mod First
pub mod Breaches
pub mod Pairs
pub mod Profiles
pub mod Steps
mod Own
mod Excluded
mod Lists
mod Worked
pub mod Laws
