use Rattle.std.proofs.Common.{◌≡◌, map, drop}
use Rattle.std.specs.Prelude.{find}
use Rattle.vlog_read.specs.NameTables.{wrong_in}
use Rattle.vlog_read.specs.NameTests.{use_of}
use Rattle.vlog_read.proofs.uses.first_wrong.Given as goal

-- the first that is wrong is among those that are left
abbrev pub invariant-loop-place : goal.invariant-loop-place
invariant-loop-place l = find (wrong_in l.known) (map use_of l.uses) ≡ find (wrong_in l.known) (map use_of (drop l.place-index l.uses))
