pub mod Lengths
pub mod Going
