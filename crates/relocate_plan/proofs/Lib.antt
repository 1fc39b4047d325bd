pub mod Asking
pub mod Following
pub mod Stages
