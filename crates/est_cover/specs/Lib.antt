pub mod Points
pub mod Covered
pub mod Portions
pub mod Nodes
pub mod Heads
pub mod NewNames
