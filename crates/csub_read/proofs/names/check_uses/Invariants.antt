use Rattle.std.proofs.Common.{◌≡◌, map, drop}
use Rattle.std.specs.Prelude.{find}
use Rattle.std.specs.HashSet.{contains_by}
use Rattle.base_types.specs.Names.{is_same_name}
use Rattle.csub_read.specs.NameTests.{use_of, wrong_use}
use Rattle.csub_read.proofs.names.check_uses.Given as goal

-- the first that is wrong is among those that are left
abbrev pub invariant-loop-place : goal.invariant-loop-place
invariant-loop-place l =
    find (wrong_use (λ name. contains_by (λ k. is_same_name name k.now) l.known)) (map use_of l.uses)
    ≡ find (wrong_use (λ name. contains_by (λ k. is_same_name name k.now) l.known)) (map use_of (drop l.place-index l.uses))
