pub mod Positions
pub mod Sources
pub mod Refusals
pub mod Lacks
pub mod Lines
pub mod Laws
