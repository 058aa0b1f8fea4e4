use Rattle.std.proofs.Common.{◌≡◌, map, take}
use Rattle.vlog_text.specs.Views.{register_of}
use Rattle.vlog_run.proofs.runner.initial_values.Given as goal

abbrev pub invariant-loop-register : goal.invariant-loop-register
invariant-loop-register l = l.values.items ≡ map (λ x. x.init) (map register_of (take l.register-index l.registers))
