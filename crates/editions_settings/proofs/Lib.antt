pub mod Laws
mod Reading
