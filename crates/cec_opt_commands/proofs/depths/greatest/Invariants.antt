use Rattle.std.proofs.Common.{◌≡◌, take}
use Rattle.blif_net.specs.Depths.{greatest}
use Rattle.cec_opt_commands.proofs.depths.greatest.Given as goal

-- the greatest so far
abbrev pub invariant-loop-number : goal.invariant-loop-number
invariant-loop-number l = l.most ≡ greatest (take l.number-index l.numbers)
