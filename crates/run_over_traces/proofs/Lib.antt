mod Groups
mod Leading
mod Stepping
mod Fronts
mod Events
mod Written
mod Pauses
mod Deciding
mod worked
pub mod Exports
