pub mod Drawings
pub mod Sizes
pub mod Rooms
pub mod Interfaces
pub mod Checking
pub mod Conversions
pub mod Tables
pub mod Depths
