mod Rails
mod Walks
mod Monotone
mod Solving
mod Steps
mod worked
pub mod Exports
