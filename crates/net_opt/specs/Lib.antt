pub mod Assembling
pub mod Keeping
pub mod Optimized
pub mod Showing
pub mod Shown
pub mod Silencing
