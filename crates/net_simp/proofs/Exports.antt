-- What other crates use of these proofs.
pub use Rattle.net_simp.proofs.Operators.{reads-low, renamed-low, renamed-value}
pub use Rattle.net_simp.proofs.Carriers.{carrier}
