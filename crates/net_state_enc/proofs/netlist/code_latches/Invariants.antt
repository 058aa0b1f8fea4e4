use Rattle.std.proofs.Common.{◌≡◌, ◌∷◌, true, map, take}
use Rattle.net_state_enc.specs.Recodings.{bit_latch}
use Rattle.net_state_enc.proofs.netlist.code_latches.Given as goal

abbrev pub invariant-loop-net : goal.invariant-loop-net
invariant-loop-net l = l.latches.items ≡ record { init = true; from = l.fn.boot } ∷ map bit_latch (take l.net-index l.bits)
