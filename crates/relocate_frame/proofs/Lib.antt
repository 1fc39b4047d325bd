pub mod Asking
pub mod Stages
