pub mod Layout
pub mod Trace
pub mod Replay
pub mod Code
pub mod Laws
