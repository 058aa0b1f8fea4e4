pub mod Lines
pub mod Broken
pub mod Found
pub mod Tokens
pub mod Scans
pub mod Traces
pub mod Reads
pub mod Answers
