mod Denials
mod GateLaws
mod Induction
mod worked
pub mod Exports
