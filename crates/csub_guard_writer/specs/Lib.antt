pub mod Regions
pub mod Meaning
