use Rattle.std.proofs.Common.{◌≡◌, drop}
use Rattle.std.specs.List.{list_any}
use Rattle.base_types.specs.Names.{is_same_name}
use Rattle.run_trace_io.specs.Traces.{reset_name}
use Rattle.run_trace_io.proofs.groups.has_resets.Given as goal

-- no input so far has the name of a reset
abbrev pub invariant-loop-input : goal.invariant-loop-input
invariant-loop-input l = list_any (is_same_name reset_name) l.inputs ≡ list_any (is_same_name reset_name) (drop l.input-index l.inputs)
