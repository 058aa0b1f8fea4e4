use Rattle.std.proofs.Common.{◌≡◌, take}
use Rattle.net_opt.specs.Assembling.{named_outputs}
use Rattle.net_opt.proofs.assembling.named_outputs.Given as goal

abbrev pub invariant-loop-k : goal.invariant-loop-k
invariant-loop-k l = l.outputs.items ≡ named_outputs (take l.k l.old) (take l.k l.nets)
