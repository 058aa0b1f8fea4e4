pub mod InlinedNames
pub mod InlinedWalks
mod worked
