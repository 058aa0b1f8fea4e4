pub mod Pairs
pub mod Layout
