mod FaultlessModules
mod MainPlaces
mod NameSets
mod FormLists
mod FirstFaults
mod GivenNames
pub mod worked
pub mod Exports
