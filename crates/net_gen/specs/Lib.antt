pub mod Drawings
pub mod Senses
pub mod Readiness
pub mod Costs
pub mod Growing
pub mod Making
pub mod Generated
pub mod Assembled
