pub mod OneMap
pub mod Judged
