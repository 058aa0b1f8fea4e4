mod Marked
mod Reaching
pub mod Exports
