pub mod Described
pub mod ModuleEquations
pub mod Reactions
pub mod Showing
pub mod NetLoops
pub mod NetTexts
pub mod TextFaults
mod worked
