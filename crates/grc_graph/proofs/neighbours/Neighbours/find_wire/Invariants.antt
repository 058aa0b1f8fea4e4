use Rattle.std.proofs.Common.{◌≡◌, ℕ, ◌<◌, ◌≤◌, slice_index}
use Rattle.std.specs.Prelude.{slice_index_or}
use Rattle.grc_graph.specs.declared.wires.Wire.{Wire}
use Rattle.grc_graph.proofs.neighbours.Neighbours.find_wire.Given as goal

abbrev pub invariant-loop-w : goal.invariant-loop-w
invariant-loop-w l = (w : ℕ) (d : Wire) → slice_index l.self.first.now l.fn.i.0 ≤ w → w < l.w → slice_index_or l.self.wires.now w d ≡ l.wanted → ⊥
