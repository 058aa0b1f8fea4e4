-- What other crates use of these proofs.
pub use Rattle.est_cover.proofs.CoveredFlats.{covered-flat, covered-named}
