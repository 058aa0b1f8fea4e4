pub mod GraphWalks
pub mod Heads
pub mod Laws
