pub mod Pieces
mod Reading
mod Lines
mod worked
pub mod Exports
