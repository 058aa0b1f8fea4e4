-- What other crates use of these proofs.
pub use Rattle.vlog_read.proofs.ReadBack.{described-are-read}
