use Rattle.std.proofs.Common.{◌≡◌, false, take}
use Rattle.std.specs.List.{list_any}
use Rattle.grc_evaluate.specs.Evaluations.{value_at}
use Rattle.grc_evaluate.proofs.formulas.any_of.Given as goal

abbrev pub invariant-loop-wire : goal.invariant-loop-wire
invariant-loop-wire l = list_any (λ v. value_at l.wires v.0) (take l.wire-index l.list) ≡ false
