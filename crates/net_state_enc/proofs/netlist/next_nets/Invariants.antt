use Rattle.std.proofs.Common.{◌≡◌, map, take}
use Rattle.net_simp.specs.Renaming.{stand_in}
use Rattle.net_state_enc.specs.Recodings.{latch_net}
use Rattle.net_state_enc.proofs.netlist.next_nets.Given as goal

abbrev pub invariant-loop-latch : goal.invariant-loop-latch
invariant-loop-latch l = l.nets.items ≡ map (latch_net (stand_in l.names)) (take l.latch-index l.latches)
