pub mod Alarms
pub mod Constructive
pub mod Counted
pub mod Findings
