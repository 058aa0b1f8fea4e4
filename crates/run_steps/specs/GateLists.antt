-- Inner: a list of gates as it lies in memory: those in 16 bytes, and the others after them.
-- (It is in specs/, short as it is, because a contract can cite definitions of specs/ alone.)
use Rattle.std.specs.Prelude.{List, ◌++◌, map}
use Rattle.run_steps.specs.declared.gate.Gate.{Gate}
use Rattle.run_steps.specs.declared.gate_list.GateList.TheInside.{Inside}
use Rattle.run_steps.specs.Records.{widened}

abbrev pub list_of : Inside → List Gate
list_of g = map widened g.narrow.items ++ g.wide.items
