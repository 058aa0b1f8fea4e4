use Rattle.std.proofs.Common.{◌≡◌, ℕ, List, map, take}
use Rattle.est_names.specs.Names.{is_among}
use Rattle.est_expand.specs.Runs.{formal_names}
use Rattle.est_expand.specs.Views.{formal_of}
use Rattle.est_expand.proofs.runs.shown_names.Given as goal

abbrev pub invariant-loop-formal : goal.invariant-loop-formal
invariant-loop-formal l =
    (name : List ℕ) → is_among name l.shown ≡ is_among name (formal_names (map formal_of (take l.formal-index l.formals)))
