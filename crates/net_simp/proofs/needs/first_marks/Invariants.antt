use Rattle.std.proofs.Common.{◌≡◌, ◌++◌, true, map, take, replicate}
use Rattle.std.specs.Prelude.{is_some}
use Rattle.net_simp.proofs.needs.first_marks.Given as goal

abbrev pub invariant-loop-gate : goal.invariant-loop-gate
invariant-loop-gate l = l.marks.items ≡ replicate l.first true ++ map (λ g. is_some g.wire) (take l.gate-index l.gates)
