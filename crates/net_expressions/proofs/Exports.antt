-- What other crates use of these proofs.
pub use Rattle.net_expressions.proofs.Rows.{expr-And, expr-Or}
pub use Rattle.net_expressions.proofs.Images.{Image, end-made, image-advances, image-ahead, image-both, image-loop, image-mapped, image-maybe, image-on}
pub use Rattle.net_expressions.proofs.Images.{image-self}
pub use Rattle.net_expressions.proofs.Images.{image-trail, list-ended, made, maybe-both, maybe-last, maybe-made, maybe-on, on-apart, shorter}
pub use Rattle.net_expressions.proofs.Tests.{both-ways, class-reads, number-test}
pub use Rattle.net_expressions.proofs.ExprLaws.{exprs_known, factor_set, sign_class}
pub use Rattle.net_expressions.proofs.Makers.{expr-meant}
pub use Rattle.net_expressions.proofs.LexLaws.{differ-eqb}
pub use Rattle.net_expressions.proofs.Saying.{FrontsNames, begins_high, bytes-decimal, bytes-name, digits-decimal, no-word, says-lines, says-then, says-whole}
pub use Rattle.net_expressions.proofs.Spelling.{Writes, meant-plain, nesting-plain, plain_written, spells-many}
pub use Rattle.net_expressions.proofs.Operators.{op-expr-value, op-names, plain-op}
pub use Rattle.net_expressions.proofs.Naming.{all-both, all-mapped, all-numbered, among-left, among-numbered, among-right, any_gate, any_latch, any_output}
pub use Rattle.net_expressions.proofs.Naming.{differ-gates, differ-states, find-none, gate-low, in-front, long-name, mark, marked-differ, marks-gates}
pub use Rattle.net_expressions.proofs.Naming.{marks-states}
pub use Rattle.net_expressions.proofs.Naming.{state_names}
pub use Rattle.net_expressions.proofs.Instants.{numbered-same}
pub use Rattle.net_expressions.proofs.Places.{fault-place, kinds-are, left-low}
pub use Rattle.net_expressions.proofs.MeantTexts.{least-meant, spelled-meant, whole-ended}
pub use Rattle.net_expressions.proofs.Again.{again-first, once-behind}
