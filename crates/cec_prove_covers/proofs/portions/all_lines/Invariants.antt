use Rattle.std.proofs.Common.{◌-◌, length}
use Rattle.cec_prove_covers.specs.Portions.{HasLines}
use Rattle.cec_prove_covers.proofs.portions.all_lines.Given as goal

abbrev pub invariant-loop-number : goal.invariant-loop-number
invariant-loop-number g l = HasLines l.asked l.number l.lines

abbrev pub decreases-loop-number : goal.decreases-loop-number
decreases-loop-number g l = length l.asked.points.now - l.number
