mod Alarms
mod Keeping
mod Stopped
mod Refused
pub mod Exports
