mod Coded
mod Clausal
mod Meeting
mod Listing
mod Induction
mod worked
pub mod Exports
