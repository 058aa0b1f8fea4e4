pub mod LeastSolutions
pub mod Laws
pub mod AcyclicLaws
pub mod TriRuns
pub mod RunLaws
