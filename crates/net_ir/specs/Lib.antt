pub mod Gates
pub mod NameLists
pub mod Netlists
pub mod Numbered
pub mod Runs
pub mod Writing
