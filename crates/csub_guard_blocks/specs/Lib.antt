pub mod Owners
pub mod Usages
pub mod Blocks
pub mod Resting
pub mod Pieces
