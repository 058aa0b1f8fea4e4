mod StateForms
mod FormedLatches
pub mod Exports
