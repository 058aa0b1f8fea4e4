use Rattle.std.proofs.Common.{◌≡◌, drop}
use Rattle.csub_run.specs.Plans.{put_all}
use Rattle.csub_run.proofs.runner.put_values.Given as goal

abbrev pub invariant-loop-k : goal.invariant-loop-k
invariant-loop-k l = put_all (drop l.k l.slots) (drop l.k l.given) l.values ≡ put_all l.slots l.given l.initial.values
