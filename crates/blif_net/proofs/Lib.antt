pub mod Exports
pub mod Drawings
pub mod OrderSums
pub mod DrawnSizes
pub mod GateCounts
pub mod DepthLaws
pub mod SlotDepths
pub mod NamedDepths
pub mod Rows
pub mod Slots
pub mod Words
pub mod Netlists
pub mod Faults
mod worked
