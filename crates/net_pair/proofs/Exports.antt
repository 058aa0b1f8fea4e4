-- What other crates use of these proofs.
pub use Rattle.net_pair.proofs.Laws.{different-apart, length-runs, runs-same}
