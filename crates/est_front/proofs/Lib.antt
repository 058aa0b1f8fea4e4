mod Written
mod TokenCounts
mod MainModules
mod Named
mod SourceWeights
mod SourceNames
mod FormedPrograms
mod OneProgram
pub mod Unrefused
mod Lacking
mod worked
pub mod Exports
