pub mod SectionPut
pub mod Converted
