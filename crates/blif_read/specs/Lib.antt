pub mod PlainStatements
pub mod Drafts
pub mod Rests
pub mod Reads
