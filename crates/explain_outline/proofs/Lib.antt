pub mod Meets
pub mod Answers
