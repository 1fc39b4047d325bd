pub mod Chain
pub mod Accept
