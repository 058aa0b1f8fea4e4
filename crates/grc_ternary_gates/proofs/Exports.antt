-- What other crates use of these proofs.
pub use Rattle.grc_ternary_gates.proofs.TableLaws.{and-says, extends-both, extends-length, extends-refl, fits-more, gate-stays, least-of-wires, lt-more}
pub use Rattle.grc_ternary_gates.proofs.TableLaws.{node-stays, not-says}
pub use Rattle.grc_ternary_gates.proofs.TableLaws.{or-says, pushed-extends, pushed-says, same-says, source-says, wire-says}
