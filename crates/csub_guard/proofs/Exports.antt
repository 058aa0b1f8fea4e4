-- What other crates use of these proofs.
pub use Rattle.csub_guard.proofs.PlainPrograms.{pieces-append, plain-run}
pub use Rattle.csub_guard.proofs.UseLists.{uses-append}
