pub mod Leading
pub mod Meets
