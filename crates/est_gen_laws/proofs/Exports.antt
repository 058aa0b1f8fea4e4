-- What other crates use of these proofs.
pub use Rattle.est_gen_laws.proofs.Interfaces.{drawn-interface}
