use Rattle.std.proofs.Common.{◌≢◌, ℕ, ◌<◌, get_or}
use Rattle.est_ast.specs.Spelling.{spelling}
use Rattle.est_ast.specs.declared.tokens.Reserved.{Reserved as ReservedWord}
use Rattle.est_lex.specs.declared.words.TheConstants.{WORDS}
use Rattle.est_lex.proofs.words.reserved.Given as goal

abbrev pub invariant-loop-word : goal.invariant-loop-word
invariant-loop-word l = (k : ℕ) → (d : ReservedWord) → k < l.word-index → l.text ≢ spelling (get_or WORDS k d)
