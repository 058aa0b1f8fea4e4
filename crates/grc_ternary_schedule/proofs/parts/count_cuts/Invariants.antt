use Rattle.std.proofs.Common.{length}
use Rattle.grc_ternary_schedule.specs.Searches.{AreMarks}
use Rattle.grc_ternary_schedule.proofs.parts.count_cuts.Given as goal

abbrev pub invariant-loop-node : goal.invariant-loop-node
invariant-loop-node l = record { seen : AreMarks (length l.found.part.items) l.marks }
