mod Stepping
mod Deciding
mod Linking
mod TableLaws
pub mod Exports
