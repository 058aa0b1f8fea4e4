mod Counts
mod Positions
mod Growth
pub mod Exports
