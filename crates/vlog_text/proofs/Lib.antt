mod Lexing
mod Spelling
mod NetNames
mod NetRules
mod NetModules
mod NetInstants
mod NetSpelled
mod NetRuns
mod Joins
mod worked
pub mod Exports
