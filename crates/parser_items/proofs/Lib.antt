pub mod Counts
pub mod Records
pub mod Tables
pub mod Versions
