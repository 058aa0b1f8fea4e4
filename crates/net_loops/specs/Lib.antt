pub mod CheckedNets
pub mod LoopNets
