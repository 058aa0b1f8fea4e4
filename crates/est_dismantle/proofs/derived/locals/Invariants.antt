use Rattle.std.proofs.Common.{◌≡◌, ◌-◌, map, drop}
use Rattle.est_dismantle.specs.Boxes.{boxed_term}
use Rattle.est_dismantle.specs.Kernels.{locals}
use Rattle.est_dismantle.proofs.derived.locals.Given as goal

abbrev pub invariant-loop-behind : goal.invariant-loop-behind
invariant-loop-behind l = boxed_term l.whole ≡ locals (map (λ s. s.0) (drop (l.count - l.behind) l.signals)) (boxed_term l.initial.whole)
