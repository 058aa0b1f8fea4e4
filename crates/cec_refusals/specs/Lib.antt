pub mod RefusalLines
pub mod BlifFaults
pub mod Views
