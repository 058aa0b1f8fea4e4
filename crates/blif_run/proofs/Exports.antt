-- What other crates use of these proofs.
pub use Rattle.blif_run.proofs.CircuitEquations.{equation-at, given-count, names-are, sound-equations}
pub use Rattle.blif_run.proofs.Resolving.{tables-count}
pub use Rattle.blif_run.proofs.Reactions.{IsOnly, only-instant}
