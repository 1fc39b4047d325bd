pub mod Hits
pub mod Listed
pub mod Laws
