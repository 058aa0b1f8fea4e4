-- What other crates use of these proofs.
pub use Rattle.csub_read.proofs.TokenKinds.{class, is-test, name-test}
pub use Rattle.csub_read.proofs.TextLaws.{SpellsPair, answer-reads, assign-reads, assigns-reads, turn_of, whole-reads, whole_depth, whole_shape}
pub use Rattle.csub_read.proofs.Makers.{answer-meant, assign-meant, body-means, loop-meant, pair_meant, whole-image}
pub use Rattle.csub_read.proofs.ReadBack.{described-are-read, written-are-read}
