-- What other crates use of these proofs.
pub use Rattle.net_follow.proofs.Induction.{followed-by-runs}
