mod Following
mod Showing
mod worked
pub mod Exports
