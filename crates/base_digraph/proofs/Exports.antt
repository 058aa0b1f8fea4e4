-- What other crates use of these proofs.
pub use Rattle.base_digraph.proofs.Rising.{walk-within}
