pub mod Under
pub mod Implications
