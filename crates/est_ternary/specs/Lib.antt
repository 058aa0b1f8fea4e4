pub mod TriWalks
pub mod Settled
pub mod KnownPlaces
pub mod Laws
