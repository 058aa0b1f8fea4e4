pub mod Devices
pub mod Faults
pub mod Sameness
pub mod Surveys
pub mod Verdicts
