use Rattle.std.proofs.Common.{◌≡◌, ◌+◌, ◌*◌, ◌^◌, ◌<◌, map, drop}
use Rattle.run_steps.specs.Slots.{value_at}
use Rattle.run_steps.specs.Plans.{number_of}
use Rattle.run_steps.proofs.lookup.lookup_value.Given as goal

abbrev pub invariant-loop-slot : goal.invariant-loop-slot
invariant-loop-slot l = record {
  weighs : l.weight ≡ 2 ^ l.slot-index;
  below : l.place < l.weight;
  number : l.place + l.weight * number_of (map (value_at l.values) (drop l.slot-index l.lookup.reads.items)) ≡ number_of (map
      (value_at l.values) l.lookup.reads.items);
}
