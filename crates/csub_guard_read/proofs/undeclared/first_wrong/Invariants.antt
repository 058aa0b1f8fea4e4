use Rattle.std.proofs.Common.{◌≡◌, map, drop}
use Rattle.std.specs.Prelude.{find}
use Rattle.csub_guard_read.specs.Undeclared.{wrong_in}
use Rattle.csub_guard_read.specs.Uses.{use_of}
use Rattle.csub_guard_read.proofs.undeclared.first_wrong.Given as goal

-- the first that is wrong is among those that are left
abbrev pub invariant-loop-place : goal.invariant-loop-place
invariant-loop-place l = find (wrong_in l.known) (map use_of l.uses) ≡ find (wrong_in l.known) (map use_of (drop l.place-index l.uses))
