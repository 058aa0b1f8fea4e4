use Rattle.std.proofs.Common.{sym, ◌∙◌, ⊎_elim, arith}
use Rattle.std.proofs.lemmas.Bool.{cases_lt}
use Rattle.base_types.specs.CodeSet.{members}
use Rattle.base_types.proofs.Exports.{upto-none}
use Rattle.est_kernel.proofs.Exports.{upto-in}
use Rattle.grc_graph.proofs.code_tables.has_some_code.Goals as goal

pub returns-then-has : goal.returns-then-has
returns-then-has c = sym (upto-in (members c.args.set) c.loop-code.code 63 (sym c.has.ensures ∙ c.if-has.true) (omega arith))

pub returns : goal.returns
returns c =
    sym (upto-none (members c.args.set) 63 (λ j l. ⊎_elim (λ h. c.loop-code.invariant j (omega (arith, h)))
    (λ h. c.codes_end-code-end.ensures.none j h (omega (arith, l))) (cases_lt j c.codes_end-code-end.result)))
