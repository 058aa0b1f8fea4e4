use Rattle.std.proofs.Common.{◌≡◌, not, map, drop}
use Rattle.std.specs.Prelude.{find}
use Rattle.std.specs.HashSet.{contains_by}
use Rattle.base_types.specs.Names.{is_same_name}
use Rattle.blif_read.proofs.drivers.check_used.Given as goal

-- the first that is lacking is among those that are left
abbrev pub invariant-loop-name : goal.invariant-loop-name
invariant-loop-name l =
    find (λ name. not (contains_by (λ k. is_same_name name k.now) l.driven)) (map (λ w. w.now) l.used)
    ≡ find (λ name. not (contains_by (λ k. is_same_name name k.now) l.driven)) (map (λ w. w.now) (drop l.name-index l.used))
