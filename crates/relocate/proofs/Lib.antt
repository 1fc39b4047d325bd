pub mod Pairing
pub mod Records
pub mod Planned
pub mod Demand
pub mod Like
pub mod Reorder
pub mod Consequences
