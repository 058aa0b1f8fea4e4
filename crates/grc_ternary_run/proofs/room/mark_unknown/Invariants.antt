use Rattle.std.proofs.Common.{◌≡◌, length, map, take}
use Rattle.std.specs.List.{list_any}
use Rattle.grc_ternary_gates.specs.Systems.{is_unknown}
use Rattle.grc_ternary_run.proofs.room.mark_unknown.Given as goal

abbrev pub invariant-loop-wire : goal.invariant-loop-wire
invariant-loop-wire l = record {
  len : length l.marks.items ≡ length l.fn.marks.items;
  marks : take l.wire l.marks.items ≡ map is_unknown (take l.wire l.values);
  some : l.some ≡ list_any (λ b. b) (take l.wire l.marks.items);
}
