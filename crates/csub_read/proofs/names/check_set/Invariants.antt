use Rattle.std.proofs.Common.{◌≡◌, ◌&&◌, not, map, drop}
use Rattle.std.specs.Prelude.{find}
use Rattle.std.specs.HashSet.{contains_by}
use Rattle.base_types.specs.Names.{is_same_name}
use Rattle.csub_text.specs.Names.{names_in}
use Rattle.csub_text.specs.Views.{expr_of}
use Rattle.csub_read.proofs.names.check_set.Given as goal

-- the first that is lacking is among those that are left
abbrev pub invariant-loop-name : goal.invariant-loop-name
invariant-loop-name l =
    find (λ name. contains_by (λ k. is_same_name name k.now) l.locals && not (contains_by (λ k. is_same_name name k.now) l.assigned))
    (names_in (expr_of l.value))
    ≡ find (λ name. contains_by (λ k. is_same_name name k.now) l.locals && not (contains_by (λ k. is_same_name name k.now) l.assigned))
    (map (λ w. w.now) (drop l.name-index l.name-items))
