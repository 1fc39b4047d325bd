pub mod Asked
pub mod Kept
pub mod Content
pub mod Standing
pub mod Searched
