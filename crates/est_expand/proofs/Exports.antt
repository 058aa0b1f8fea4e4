-- What other crates use of these proofs.
pub use Rattle.est_expand.proofs.FlatLaws.{flattened-fits, flattened-named}
pub use Rattle.est_expand.proofs.FlatFitting.{Begins, Kept, Sees, flattening-IfOk, if-IfOk, on_ok-IfOk}
pub use Rattle.est_expand.proofs.SameNames.{numbers-alike}
