pub mod Sited
pub mod Plain
pub mod ByMap
pub mod Positions
pub mod Judging
pub mod Moving
