pub mod Instances
pub mod Sources
pub mod Texts
pub mod Faults
