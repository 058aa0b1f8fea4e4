-- What other crates use of these proofs.
pub use Rattle.grc_evaluate.proofs.Agreement.{source-agrees}
pub use Rattle.grc_evaluate.proofs.Stages.{false-off, occasion, source-known}
pub use Rattle.grc_evaluate.proofs.Meanings.{boot-is, selected-means}
pub use Rattle.grc_evaluate.proofs.Steps.{known-late, plain-formulas, plain-wires, weight}
pub use Rattle.grc_evaluate.proofs.Wholes.{begun, outputs-mean}
