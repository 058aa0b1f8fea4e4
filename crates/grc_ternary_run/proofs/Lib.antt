mod ChainSteps
mod Making
mod Naming
mod SystemSteps
mod Settling
mod Reading
mod Premises
mod Reacting
mod Programs
pub mod Exports
