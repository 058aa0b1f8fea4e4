pub mod Coverings
pub mod Findings
pub mod Lines
pub mod Portions
pub mod Stages
