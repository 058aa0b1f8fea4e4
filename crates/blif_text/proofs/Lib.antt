-- what callers cite of names among others
mod WordBytes
mod SpelledLines
mod ReadsBack
mod SaidNames
mod Described
mod Joins
mod RoundTrip
mod NetNames
mod NetDrivers
mod NetSpelling
mod NetInstants
mod NetRuns
pub mod TextLengths
mod worked
pub mod Exports
