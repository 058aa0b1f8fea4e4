use Rattle.std.proofs.Common.{◌-◌, drop}
use Rattle.est_dismantle.specs.Extents.{IsExtent}
use Rattle.est_dismantle.specs.FlatNodes.{parts_measures, chosen_measures}
use Rattle.est_dismantle.specs.Measures.{Measures}
use Rattle.est_dismantle.proofs.measure.+measuring.Given as goal

abbrev pub invariant-measure_parts-loop-behind : goal.invariant-measure_parts-loop-behind
invariant-measure_parts-loop-behind l = IsExtent l.whole (parts_measures (drop (l.count - l.behind) l.parts))

abbrev pub invariant-measure_cases-loop-behind : goal.invariant-measure_cases-loop-behind
invariant-measure_cases-loop-behind l = (r : Measures) → IsExtent l.fn.last r → IsExtent l.whole (chosen_measures (drop (l.count - l.behind) l.cases) r)
