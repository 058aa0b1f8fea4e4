use Rattle.std.proofs.Common.{◌≡◌, map, take, slice_index_or}
use Rattle.blif_net.proofs.drawing.nets_at.Given as goal

abbrev pub invariant-loop-slot : goal.invariant-loop-slot
invariant-loop-slot l = l.found.items ≡ map (λ s. slice_index_or l.nets s (record { 0 = 0 })) (take l.slot-index l.slots)
