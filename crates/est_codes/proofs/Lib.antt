pub mod LeastPlaces
pub mod Listings
pub mod ExitCodes
pub mod CodeSets
mod worked
