use Rattle.std.proofs.Common.{arith, sym, ◌∙◌}
use Rattle.est_kernel.proofs.Exports.{upto-in}
use Rattle.base_types.specs.CodeSet.{members}
use Rattle.base_types.proofs.Exports.{upto-none}
use Rattle.est_codes.proofs.rows.has_some.Goals as goal

pub returns-then-has : goal.returns-then-has
returns-then-has c = sym (upto-in (members c.args.set) c.loop-k.k 63 (sym c.has.ensures ∙ c.if-has.true) (omega arith))

pub returns : goal.returns
returns c = sym (upto-none (members c.args.set) 63 (λ j l. c.loop-k.invariant j (omega arith)))
