mod Building
mod Values
mod Numbered
mod NumberedNames
mod NameLists
mod Pieces
mod Nets
pub mod worked
pub mod Exports
