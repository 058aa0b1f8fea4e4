use Rattle.std.proofs.Common.{◌-◌, ◌≤◌, length, take}
use Rattle.base_types.specs.Writing.{Appends}
use Rattle.base_types.proofs.sinks.pieces.write_text.Given as goal

-- what stands before the start was appended
abbrev pub invariant-loop-start : goal.invariant-loop-start
invariant-loop-start g l = record {
  within : l.start ≤ length l.text;
  so_far : Appends (g.O.Sink.told l.initial.out) (g.O.Sink.told l.out) (g.O.Sink.faults l.initial.out) (g.O.Sink.faults l.out) (take l.start l.text);
}

abbrev pub decreases-loop-start : goal.decreases-loop-start
decreases-loop-start g l = length l.text - l.start
