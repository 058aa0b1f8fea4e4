pub mod Bases
pub mod Found
pub mod Drawings
pub mod Packings
