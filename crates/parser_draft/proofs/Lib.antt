pub mod Ends
pub mod Limits
pub mod Drafts
