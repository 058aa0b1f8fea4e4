use Rattle.std.proofs.Common.{◌≡◌, map, take}
use Rattle.vlog_run.specs.ModuleAnswers.{bare_name}
use Rattle.vlog_run.proofs.runner.bare_names.Given as goal

abbrev pub invariant-loop-name : goal.invariant-loop-name
invariant-loop-name l = l.bare.items ≡ map bare_name (take l.name-index l.names)
