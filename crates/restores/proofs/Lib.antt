pub mod Laws
pub mod Moving
mod Beginning
pub mod Editions
