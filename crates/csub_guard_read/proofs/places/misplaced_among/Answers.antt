use Rattle.std.proofs.Common.{ℕ, List, Some, ap, sym, ◌∙◌, arith, Bor}
use Rattle.std.specs.HashMap.{get_by}
use Rattle.std.specs.HashSet.{contains_by}
use Rattle.base_types.specs.Names.{is_same_name}
use Rattle.net_expressions.specs.NameTables.{name_told}
use Rattle.csub_guard_read.specs.Tables.{puts_told}
use Rattle.csub_guard_read.proofs.Misplacing.{so_far-again, so_far-next}
use Rattle.csub_guard_read.proofs.places.misplaced_among.Goals as goal

pub returns-then-is_again-clause-again : goal.returns-then-is_again-clause-again
returns-then-is_again-clause-again c =
    ap Some c.used_name.ensures
    ∙ so_far-again (λ n. contains_by (λ (k : Bor (List ℕ)). is_same_name n k.now) c.args.locals.now)
    (λ n. puts_told (get_by (λ (k : Bor (List ℕ)). is_same_name n k.now) c.loop-place.puts)) (name_told c.loop-place.unset) c.args.uses.now
    c.loop-place.place-index _ (omega arith) c.loop-place.invariant (sym c.is_again.ensures ∙ c.if-is_again.true)

pub loop-place-preserved : goal.loop-place-preserved
loop-place-preserved c =
    so_far-next (λ n. contains_by (λ (k : Bor (List ℕ)). is_same_name n k.now) c.args.locals.now)
    (λ n. puts_told (get_by (λ (k : Bor (List ℕ)). is_same_name n k.now) c.loop-place.puts)) (name_told c.loop-place.unset) c.args.uses.now
    c.loop-place.place-index _ (omega arith) c.loop-place.invariant
    (λ n. puts_told (get_by (λ (k : Bor (List ℕ)). is_same_name n k.now) c.note.new.puts)) (name_told c.first_of-unset.result) c.is_unset.result
    (sym c.is_again.ensures ∙ c.if-is_again.false) c.in_ok-note.ensures c.is_unset.ensures c.first_of-unset.ensures
