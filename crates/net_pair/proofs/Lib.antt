mod MovedGates
mod Differences
mod Instants
mod PairNets
mod Laws
mod worked
pub mod Exports
