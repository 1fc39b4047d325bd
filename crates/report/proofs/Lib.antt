pub mod Plus
pub mod Reports
