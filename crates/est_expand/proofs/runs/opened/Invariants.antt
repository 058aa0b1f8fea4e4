use Rattle.std.proofs.Common.{◌≡◌, [], map, drop}
use Rattle.est_expand.specs.Runs.{opened}
use Rattle.est_expand.specs.Views.{formal_of}
use Rattle.est_expand.proofs.runs.opened.Given as goal

-- what is left gives the whole scope
abbrev pub invariant-loop-formal : goal.invariant-loop-formal
invariant-loop-formal l =
    opened l.place l.scope l.given l.inner (map formal_of (drop l.formal-index l.formals)) ≡ opened l.place l.scope l.given [] (map formal_of l.formals)
