-- what callers cite of names among others
mod Joins
mod Lexing
mod Spelling
mod NetNames
mod NetRules
mod NetSets
mod NetCalls
mod NetMeans
pub mod TextLengths
mod worked
pub mod Exports
