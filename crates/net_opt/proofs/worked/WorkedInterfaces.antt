-- Written by hand: what an optimized netlist keeps of the given one, field by field.
use Rattle.std.proofs.Common.{◌≡◌, ◌≤◌, [], length}
use Rattle.net_ir.specs.Gates.{carried}
use Rattle.net_ir.specs.Netlists.{Netlist, output_names}
use Rattle.net_follow.specs.Following.{IsFollowed}
use Rattle.net_opt.specs.Optimized.{SameInterface, Replaces, Optimizes}

the_same_interface : (old new : Netlist) → SameInterface old new → (new.name ≡ old.name) × (new.inputs ≡ old.inputs)
    × (output_names new ≡ output_names old) × (carried new.gates ≡ [])
the_same_interface old new h = (h.name, h.inputs, h.outputs, h.silent)

what_replaces : (old new : Netlist) → Replaces old new → SameInterface old new × IsFollowed old new
what_replaces old new h = (h.interface, h.followed)

what_optimizes : (old new : Netlist) → Optimizes old new
    → Replaces old new × (length new.gates ≤ length old.gates) × (length new.latches ≤ length old.latches)
what_optimizes old new h = (h.replaces, h.fewer_gates, h.fewer_latches)
