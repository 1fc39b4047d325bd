mod Aligned
pub mod Clashes
pub mod Meets
