use Rattle.std.proofs.Common.{◌≡◌, length, map, take}
use Rattle.grc_ternary_run.specs.Rooms.{is_true}
use Rattle.grc_ternary_run.proofs.room.put_true.Given as goal

abbrev pub invariant-loop-wire : goal.invariant-loop-wire
invariant-loop-wire l = record {
  len : length l.wires.items ≡ length l.fn.wires.items;
  front : take l.wire l.wires.items ≡ map is_true (take l.wire l.values);
}
