-- What other crates use of these proofs.
pub use Rattle.net_gen.proofs.NetFacts.{differ-drop, differ-take, given-names, names-fit, outgoing-of}
pub use Rattle.net_gen.proofs.Naming.{map-push, take-found_behind}
pub use Rattle.net_gen.proofs.FirstNumbers.{numbers_are_few}
pub use Rattle.net_gen.proofs.NetRuns.{leaves-false, next-many}
pub use Rattle.net_gen.proofs.Sensing.{length-start}
pub use Rattle.net_gen.proofs.SizeBounds.{wires_cost}
