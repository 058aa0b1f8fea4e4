use Rattle.std.specs.HashMap.{get_by}
use Rattle.std.specs.HashSet.{contains_by}
use Rattle.base_types.specs.Names.{is_same_name}
use Rattle.net_expressions.specs.NameTables.{name_told}
use Rattle.csub_guard_read.specs.Tables.{puts_told}
use Rattle.csub_guard_read.proofs.Misplacing.{SoFar}
use Rattle.csub_guard_read.proofs.places.misplaced_among.Given as goal

abbrev pub invariant-loop-place : goal.invariant-loop-place
invariant-loop-place l =
    SoFar (λ n. contains_by (λ k. is_same_name n k.now) l.locals) (λ n. puts_told (get_by (λ k. is_same_name n k.now) l.puts)) (name_told l.unset)
    l.uses l.place-index
