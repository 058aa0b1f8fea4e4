use Rattle.std.proofs.Common.{◌≡◌, ◌++◌, map, take}
use Rattle.vlog_reset.specs.Views.{options_of}
use Rattle.vlog_reset.specs.Written.{input_name}
use Rattle.vlog_reset.proofs.names.push_inputs.Given as goal

-- those so far are pushed
abbrev pub invariant-loop-name : goal.invariant-loop-name
invariant-loop-name l = l.names.items ≡ l.initial.names.items ++ map (input_name (options_of l.options)) (take l.name-index l.inputs)
