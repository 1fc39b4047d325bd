pub mod Calls
pub mod Store
pub mod History
pub mod Laws
