use Rattle.std.proofs.Common.{◌≡◌, map, take}
use Rattle.blif_text.specs.Plain.{plain_latch}
use Rattle.blif_net.specs.Tables.{latch_named}
use Rattle.blif_net.proofs.assembling.named_latches.Given as goal

abbrev pub invariant-loop-latch : goal.invariant-loop-latch
invariant-loop-latch l =
    l.named.items ≡ map (latch_named (map (λ k. k.now) l.slots.keys) l.nets) (map plain_latch (take l.latch-index l.latches))
