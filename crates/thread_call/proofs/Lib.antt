pub mod Few
pub mod Judging
pub mod Moving
pub mod Sited
pub mod Whole
