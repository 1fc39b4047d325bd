pub mod Kept
pub mod Kindred
pub mod Single
pub mod Tally
