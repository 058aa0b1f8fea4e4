pub mod Climbing
mod worked
