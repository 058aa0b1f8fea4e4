pub mod Kept
pub mod KeptNets
pub mod Parts
pub mod Reaching
pub mod Reading
pub mod Replacing
mod worked
