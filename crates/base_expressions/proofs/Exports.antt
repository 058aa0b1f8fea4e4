-- What other crates use of these proofs.
pub use Rattle.base_expressions.proofs.Shrinks.{shorter}
pub use Rattle.base_expressions.proofs.Judgements.{Behind, IsGrammar, Kinds, KnownExprs}
pub use Rattle.base_expressions.proofs.Grammars.{AtTier, IsBelow, IsNode, IsRow, TellsOpenings, bracket-from, leaf-from, negation-from, part-to, tier-of}
