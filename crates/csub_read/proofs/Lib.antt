mod UnsetLocals
mod TokenKinds
mod TextLaws
mod Makers
mod LexLaws
mod LongestTokens
mod ReaderLaws
mod ReadBack
mod NameFaults
mod worked
pub mod Exports
