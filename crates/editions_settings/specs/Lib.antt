pub mod Machine
pub mod Under
pub mod Code
