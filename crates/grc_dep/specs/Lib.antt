pub mod Cycles
pub mod Names
pub mod Found
pub mod Families
pub mod PartCodes
pub mod InstanceEdges
