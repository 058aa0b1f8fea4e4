mod Lexing
mod Spelling
mod NetNames
mod NetWords
mod NetInstants
mod NetRuns
mod NetSound
mod OwnNames
mod Appends
mod Joins
mod Places
mod NetMeans
mod worked
pub mod Exports
