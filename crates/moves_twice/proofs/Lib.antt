pub mod Joined
pub mod Accepted
pub mod TwoMoves
pub mod TwoImages
pub mod Counterexamples
