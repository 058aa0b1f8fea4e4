use Rattle.std.proofs.Common.{◌≡◌, ◌<◌, ◌++◌, All, drop, length, map}
use Rattle.base_types.specs.declared.indices.WireId.{WireId}
use Rattle.grc_ternary_stops.specs.MarkedWires.{marked_from}
use Rattle.grc_ternary_stops.proofs.marks.marked_numbers.Given as goal

-- the numbers so far, and those of the marks that are left
abbrev pub invariant-loop-number : goal.invariant-loop-number
invariant-loop-number l = record {
  join : map (λ (w : WireId). w.0) l.numbers.items ++ marked_from l.number (drop l.number l.marks) ≡ marked_from 0 l.marks;
  within : All (λ (w : WireId). w.0 < length l.marks) l.numbers.items;
}
