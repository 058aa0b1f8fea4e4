-- What other crates use of these proofs.
pub use Rattle.cec_words.proofs.GeneratedBranches.{AsksWell, asks-well}
