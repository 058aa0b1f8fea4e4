use Rattle.std.proofs.Common.{◌≡◌, ◌++◌, map, take}
use Rattle.vlog_reset.specs.Views.{options_of}
use Rattle.vlog_reset.specs.Written.{output_name}
use Rattle.vlog_reset.proofs.names.push_outputs.Given as goal

-- those so far are pushed
abbrev pub invariant-loop-output : goal.invariant-loop-output
invariant-loop-output l = l.names.items ≡ l.initial.names.items ++ map (output_name (options_of l.options)) (take l.output-index l.outputs)
