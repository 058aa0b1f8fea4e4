mod TokenKinds
mod TextLaws
mod Makers
mod ReaderLaws
mod LexLaws
mod NameLaws
pub mod ReadBack
mod RegisterTables
mod worked
pub mod Exports
