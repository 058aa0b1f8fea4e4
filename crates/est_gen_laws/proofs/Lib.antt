mod Bits
mod Openings
mod Heads
mod Interfaces
pub mod Exports
