mod Calling
pub mod Laws
