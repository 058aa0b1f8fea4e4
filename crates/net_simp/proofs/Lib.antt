mod Keeping
mod Operators
mod Reductions
mod SameForms
mod Drafting
mod Marking
mod Ranks
mod SimplifiedNets
mod ReducedGates
mod Simple
mod Carriers
mod worked
pub mod Exports
