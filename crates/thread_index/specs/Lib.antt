pub mod ByIndex
pub mod Laws
