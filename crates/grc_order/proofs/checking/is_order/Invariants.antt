use Rattle.std.proofs.Common.{◌≡◌, ℕ, ◌<◌, false, slice_index_or, take}
use Rattle.grc_order.specs.Checks.{IsChecked}
use Rattle.grc_order.proofs.checking.is_order.Given as goal

abbrev pub invariant-loop-mark : goal.invariant-loop-mark
invariant-loop-mark l = (k : ℕ) → k < l.mark-index → slice_index_or l.marks k false ≡ false

abbrev pub invariant-loop-wire : goal.invariant-loop-wire
invariant-loop-wire l = IsChecked l.edges.count l.edges.pairs.items (take l.wire-index l.list) l.marks
