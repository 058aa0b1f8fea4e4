-- What other crates use of these proofs.
pub use Rattle.net_state_enc_laws.proofs.FormedLatches.{graph-keeps, kept-formed}
