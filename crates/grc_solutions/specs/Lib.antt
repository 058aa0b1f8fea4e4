pub mod GraphWires
pub mod Solutions
pub mod NumberedGraphs
pub mod Evaluations
