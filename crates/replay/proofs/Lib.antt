pub mod Bound
pub mod Laws
pub mod Replaying
pub mod Written
pub mod Recording
