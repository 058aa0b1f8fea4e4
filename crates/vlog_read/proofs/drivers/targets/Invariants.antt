use Rattle.std.proofs.Common.{◌≡◌, map, take}
use Rattle.vlog_text.specs.Names.{targets}
use Rattle.vlog_text.specs.Views.{assign_of}
use Rattle.vlog_read.proofs.drivers.targets.Given as goal

abbrev pub invariant-loop-assign : goal.invariant-loop-assign
invariant-loop-assign l = map (λ w. w.now) l.names.items ≡ targets (map assign_of (take l.assign-index l.assigns))
