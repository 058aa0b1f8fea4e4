pub mod Events
pub mod Sources
