-- What other crates use of these proofs.
pub use Rattle.blif_net.proofs.DepthLaws.{gate_depths-push, greatest-push, length-gate_depths}
