pub mod Cuts
pub mod CycleCounts
