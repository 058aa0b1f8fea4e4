-- What other crates use of these proofs.
pub use Rattle.csub_guard_read.proofs.ReadBack.{described-are-read}
