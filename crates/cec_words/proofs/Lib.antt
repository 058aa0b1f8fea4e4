mod DecimalValues
mod AskedOnce
mod Gathering
mod Options
mod GeneratedBranches
mod worked
pub mod Exports
