use Rattle.std.proofs.Common.{◌≡◌, ◌-◌, ◌≤◌, false, drop, length}
use Rattle.run_trace_io.specs.Tokens.{tokens}
use Rattle.run_trace_io.specs.Traces.{group, group_from}
use Rattle.run_trace_io.specs.Reads.{stage_of}
use Rattle.run_trace_io.proofs.groups.read_group.Given as goal

-- what is left of the text
abbrev pub decreases-loop-event : goal.decreases-loop-event
decreases-loop-event l = length l.text - l.from

-- the group is that of the tokens from here on, behind what stood before
abbrev pub invariant-loop-event : goal.invariant-loop-event
invariant-loop-event l = record {
  behind : l.at ≤ l.from;
  within : l.from ≤ length l.text;
  each_input : length l.event.items ≡ length l.names.inputs.now;
  same : group_from l.names.inputs.now l.names.instant l.text l.at ≡
      group l.names.inputs.now l.names.instant (stage_of l.stage) l.event.items (tokens false l.from (drop l.from l.text));
}
