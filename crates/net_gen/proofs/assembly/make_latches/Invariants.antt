use Rattle.std.proofs.Common.{◌≡◌, ◌∷◌, map, take}
use Rattle.net_gen.specs.Assembled.{boot_latch, leaf_latch}
use Rattle.net_gen.proofs.assembly.make_latches.Given as goal

abbrev pub invariant-loop-net : goal.invariant-loop-net
invariant-loop-net l = l.latches.items ≡ boot_latch l.fn.no ∷ map leaf_latch (take l.net-index l.next)
