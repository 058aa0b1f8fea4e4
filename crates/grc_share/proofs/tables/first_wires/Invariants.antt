use Rattle.grc_share.specs.Tables.{AreFirstsOf}
use Rattle.grc_share.proofs.tables.first_wires.Given as goal

-- those of the first instances
abbrev pub invariant-loop-i : goal.invariant-loop-i
invariant-loop-i l = AreFirstsOf l.graph l.numbers.wires.now l.i l.firsts.items
