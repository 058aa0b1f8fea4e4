use Rattle.std.proofs.Common.{◌≡◌, map, take}
use Rattle.blif_text.specs.Plain.{plain_latch}
use Rattle.blif_run.proofs.runner.initial_values.Given as goal

abbrev pub invariant-loop-latch : goal.invariant-loop-latch
invariant-loop-latch l = l.values.items ≡ map (λ x. x.init) (map plain_latch (take l.latch-index l.latches))
