pub mod Lookup
pub mod Firsts
pub mod Ordered
