mod Linking
mod Searching
mod Steps
mod Ends
mod Rising
pub mod Exports
