use Rattle.std.proofs.Common.{◌≡◌, ◌+◌, ◌*◌, ◌^◌, ◌≤◌, length, drop}
use Rattle.csub_guard_run.specs.Tracks.{AreInOrder, jumps_made, jumps_count}
use Rattle.csub_guard_run.proofs.run.run_track.Given as goal

-- what is left makes of the values so far what all make of those at the beginning, and the counts add up
abbrev pub invariant-loop-jump : goal.invariant-loop-jump
invariant-loop-jump l = record {
  wide : length l.values ≡ length l.fn.values;
  order : AreInOrder (length l.track.gates.lookups) l.reached.place (drop l.jump-index l.track.jumps.items);
  made : jumps_made l.track.gates.lookups l.reached.place (drop l.jump-index l.track.jumps.items) l.values
      ≡ jumps_made l.track.gates.lookups 0 l.track.jumps.items l.fn.values;
  counted : l.reached.count + jumps_count l.track.gates.lookups l.reached.place (drop l.jump-index l.track.jumps.items) l.values
      ≡ jumps_count l.track.gates.lookups 0 l.track.jumps.items l.fn.values;
  most : l.reached.count ≤ l.jump-index * 2 ^ 65;
}
