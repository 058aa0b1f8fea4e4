-- What other crates use of these proofs.
pub use Rattle.est_parse.proofs.ModuleLaws.{program-exact}
