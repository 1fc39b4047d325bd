pub mod Numbers
pub mod Index
pub mod Lookup
pub mod Same
pub mod Ordered
