mod Agreement
mod Stages
mod Meanings
mod Ends
mod Steps
mod Wholes
pub mod Exports
