use Rattle.std.proofs.Common.{take}
use Rattle.net_follow.specs.Proving.{Begins}
use Rattle.net_follow.proofs.proving.assuming.Given as goal

abbrev pub invariant-loop-equation : goal.invariant-loop-equation
invariant-loop-equation l = Begins (take l.equation-index l.assumed) l.prover
