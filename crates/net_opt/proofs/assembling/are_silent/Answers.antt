use Rattle.std.proofs.Common.{arith}
use Rattle.net_opt.proofs.Parts.{none-carried}
use Rattle.net_opt.proofs.assembling.are_silent.Goals as goal

pub returns : goal.returns
returns c = λ is. none-carried c.args.gates.now (λ k d low. c.loop-gate.invariant k d (omega arith))
