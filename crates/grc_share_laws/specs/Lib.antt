pub mod Laws
pub mod SharedSolutions
pub mod SharedReactions
