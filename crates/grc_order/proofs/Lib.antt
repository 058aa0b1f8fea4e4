pub mod RunLaws
pub mod Counts
pub mod Starting
pub mod Placing
pub mod Releasing
pub mod CheckLaws
