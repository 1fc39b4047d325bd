pub mod Tally
pub mod Table
pub mod Cuts
pub mod Finds
pub mod Sweeps
