use Rattle.std.proofs.Common.{◌<◌, All, length}
use Rattle.grc_ternary_schedule.specs.Searches.{AreMarks}
use Rattle.grc_ternary_schedule.proofs.parts.find_schedule.Given as goal

abbrev pub invariant-loop-list : goal.invariant-loop-list
invariant-loop-list l = record {
  seen : AreMarks (length l.found.part.items) l.seen;
  low : All (λ n. n < length l.gates) l.schedule.items;
}
