-- What other crates use of these proofs.
pub use Rattle.csub_guard_writer_laws.proofs.GuardedTexts.{guarded_texts_run_lem}
