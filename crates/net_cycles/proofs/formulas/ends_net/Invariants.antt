use Rattle.std.proofs.Common.{◌-◌}
use Rattle.net_cycles.specs.Bases.{RunSays}
use Rattle.net_cycles.proofs.formulas.ends_net.Given as goal

abbrev pub invariant-loop-wire : goal.invariant-loop-wire
invariant-loop-wire l = record { made : RunSays l.nets l.fn.gates l.gates l.first (l.wire - l.first) l.net.0 }
