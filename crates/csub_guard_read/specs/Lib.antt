pub mod Reading
pub mod Faults
pub mod Steps
pub mod Laws
pub mod Uses
pub mod Undeclared
pub mod Tables
pub mod NameFaults
