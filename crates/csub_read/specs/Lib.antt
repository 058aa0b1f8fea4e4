pub mod Tokens
pub mod Reading
pub mod Faults
pub mod Steps
pub mod NameTests
pub mod Laws
pub mod LongestTokens
