mod Classes
mod EveryText
mod Fronts
mod Heads
mod Longest
mod OneLexing
mod OneToken
mod Rows
mod FlatRows
mod worked
pub mod Exports
