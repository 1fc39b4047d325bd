pub mod Laws
pub mod Defined
pub mod Steps
