-- What other crates use of these proofs.
pub use Rattle.cec_cycles.proofs.Keeping.{constructive_blif, constructive_c, constructive_verilog}
