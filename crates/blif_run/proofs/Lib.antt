mod TruthTables
mod CircuitEquations
mod Resolving
mod Reactions
mod Showing
mod NetLoops
mod NetTexts
mod TextFaults
mod worked
pub mod Exports
