pub mod Literals
pub mod Coding
pub mod Proving
pub mod Frames
pub mod Following
pub mod Matching
pub mod Inducing
