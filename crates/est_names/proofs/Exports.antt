-- What other crates use of these proofs.
pub use Rattle.est_names.proofs.FaultlessModules.{faultless-interface, nothing_before}
pub use Rattle.est_names.proofs.MainPlaces.{main_place-within}
pub use Rattle.est_names.proofs.NameSets.{is_among-put, position-map}
