pub mod Orders
pub mod Places
pub mod History
pub mod Examples
