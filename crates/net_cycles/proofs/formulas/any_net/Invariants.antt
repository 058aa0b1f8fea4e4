use Rattle.std.proofs.Common.{take}
use Rattle.net_cycles.specs.Bases.{AnySays}
use Rattle.net_cycles.proofs.formulas.any_net.Given as goal

abbrev pub invariant-loop-wire : goal.invariant-loop-wire
invariant-loop-wire l = record { made : AnySays l.nets l.fn.gates l.gates (take l.wire-index l.list) l.net.0 }
