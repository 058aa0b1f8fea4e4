use Rattle.std.proofs.Common.{◌≡◌, [], map, drop}
use Rattle.est_expand.specs.Runs.{renamed}
use Rattle.est_expand.specs.Views.{formal_of}
use Rattle.est_expand.proofs.runs.given_formals.Given as goal

-- what is left gives all that is renamed
abbrev pub invariant-loop-rename : goal.invariant-loop-rename
invariant-loop-rename l =
    renamed (map formal_of l.formals) l.scope l.given (drop l.rename-index l.renames) ≡ renamed (map formal_of l.formals) l.scope [] l.renames
