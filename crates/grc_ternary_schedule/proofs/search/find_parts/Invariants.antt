use Rattle.std.proofs.Common.{length}
use Rattle.grc_ternary_schedule.specs.Searches.{IsSearch}
use Rattle.grc_ternary_schedule.proofs.search.find_parts.Given as goal

abbrev pub invariant-loop-root : goal.invariant-loop-root
invariant-loop-root l = record { search : IsSearch (length l.gates) l.found }

abbrev pub invariant-loop-root-2 : goal.invariant-loop-root-2
invariant-loop-root-2 l = record { search : IsSearch (length l.gates) l.found }
