pub mod Steps
pub mod Sinks
pub mod Gaps
