mod Abortions
mod BadCounts
mod DerivedLaws
mod Exits
mod Expanded
mod Fitting
mod KernelNodes
mod Limits
mod Lists
mod Measured
mod MeasuredNodes
mod WholePrograms
mod Found
mod NewTraps
mod worked
pub mod Exports
mod Depths
