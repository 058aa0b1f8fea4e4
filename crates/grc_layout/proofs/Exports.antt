-- What other crates use of these proofs.
pub use Rattle.grc_layout.proofs.Growth.{length-leaf_paths}
