-- What other crates use of these proofs.
pub use Rattle.est_front.proofs.FormedPrograms.{flattens-flat}
pub use Rattle.est_front.proofs.SourceNames.{HasRoom, given-room, outgoing-room, source-room}
pub use Rattle.est_front.proofs.OneProgram.{one_program}
