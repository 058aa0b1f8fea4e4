-- What other crates use of these proofs.
pub use Rattle.cec_opt_sources.proofs.LightNets.{light_blif, light_c, light_verilog}
pub use Rattle.cec_opt_sources.proofs.Related.{under_keeps}
