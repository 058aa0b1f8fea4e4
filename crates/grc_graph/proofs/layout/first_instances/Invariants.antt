use Rattle.std.proofs.Common.{◌≡◌, length}
use Rattle.grc_graph.specs.WireTables.{AreCountsBefore}
use Rattle.grc_graph.proofs.layout.first_instances.Given as goal

-- an entry for each statement so far
abbrev pub invariant-loop-statement : goal.invariant-loop-statement
invariant-loop-statement l = (length l.firsts.items ≡ l.statement) × AreCountsBefore l.live l.firsts.items
