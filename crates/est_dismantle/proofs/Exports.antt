-- What other crates use of these proofs.
pub use Rattle.est_dismantle.proofs.Expanded.{expansion-names, expansion-well_formed}
