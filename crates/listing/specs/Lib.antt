pub mod Layout
pub mod Listing
pub mod RoundTrip
pub mod Bound
pub mod Answers
