pub mod Thread
pub mod Laws
pub mod Code
