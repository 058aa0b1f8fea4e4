pub mod FirstLines
pub mod FirstWords
pub mod Reversals
pub mod DriverFaults
pub mod TakenLines
pub mod ReadBack
