-- What other crates use of these proofs.
pub use Rattle.csub_guard_run.proofs.CountedRuns.{counted-along}
