-- What other crates use of these proofs.
pub use Rattle.grc_ternary.proofs.Reactions.{known_reacts_lem, reacts_known_lem}
pub use Rattle.grc_ternary.proofs.Acyclic.{graph_runs_are_runs_lem}
pub use Rattle.grc_ternary.proofs.KnownWires.{plus_known}
