mod Answering
mod Options
pub mod Outcomes
mod Progress
mod Refused
