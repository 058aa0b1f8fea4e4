-- What other crates use of these proofs.
pub use Rattle.cec_opt_texts.proofs.Keeping.{allowed-events, blif-keeps, c-keeps, fitting-events, related, verilog-keeps}
pub use Rattle.cec_opt_texts.proofs.Lacking.{given-stop, lacking-input}
