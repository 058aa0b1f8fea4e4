mod DistinctNames
mod FlatLaws
mod FlatFitting
mod RowForms
mod WalkSteps
mod RunSteps
mod TrapPlaces
mod FoundLists
mod ScopeTables
mod SameNames
mod SameWalks
mod worked
pub mod Exports
