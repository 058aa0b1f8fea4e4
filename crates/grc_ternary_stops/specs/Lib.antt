pub mod MarkedWires
pub mod Reaches
pub mod Stops
