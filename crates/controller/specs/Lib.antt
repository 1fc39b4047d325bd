pub mod Profile
pub mod Controller
pub mod Lists
pub mod Worked
pub mod Laws
pub mod Kept
