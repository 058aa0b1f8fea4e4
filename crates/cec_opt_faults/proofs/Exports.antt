-- What other crates use of these proofs.
pub use Rattle.cec_opt_faults.proofs.CauseLaws.{unmade-as, unmade-source}
