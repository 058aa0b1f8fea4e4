pub mod Faults
pub mod Copying
pub mod Growing
