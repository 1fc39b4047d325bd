pub mod Restores
pub mod Moves
pub mod Laws
pub mod Code
