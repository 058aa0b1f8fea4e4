mod TestRows
mod Rows
mod Depths
mod Fitting
mod CoveredFlats
mod FreshNames
pub mod Exports
