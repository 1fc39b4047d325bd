pub mod Lengths
pub mod Tells
