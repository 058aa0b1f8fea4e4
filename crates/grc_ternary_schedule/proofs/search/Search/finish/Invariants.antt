use Rattle.std.proofs.Common.{length}
use Rattle.grc_ternary_schedule.specs.Searches.{IsSearch}
use Rattle.grc_ternary_schedule.proofs.search.Search.finish.Given as goal

abbrev pub invariant-loop : goal.invariant-loop
invariant-loop l = record { search : IsSearch (length l.gates) l.self }
