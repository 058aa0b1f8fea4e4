-- What other crates use of these proofs.
pub use Rattle.grc_ternary_run.proofs.Naming.{least-named, named-off, named-there}
pub use Rattle.grc_ternary_run.proofs.Settling.{behind}
