use Rattle.std.proofs.Common.{◌≡◌, ℕ, ◌+◌, ◌∷◌, List, [], true, cond, not, ◌&&◌, map, drop, sym, ap, ◌∙◌, subst, arith, Bor}
use Rattle.std.specs.Prelude.{find, filter}
use Rattle.std.specs.HashSet.{contains_by}
use Rattle.std.specs.List.{list_any}
use Rattle.std.proofs.lemmas.List.{drop_all}
use Rattle.std.proofs.lemmas.Result.{err_from_is_err_and, on_ok_weaker}
use Rattle.base_facts.proofs.Lists.{drop-at}
use Rattle.base_types.specs.Names.{is_same_name}
use Rattle.base_types.specs.Stops.{IfFault}
use Rattle.net_ir.specs.NameLists.{is_among}
use Rattle.csub_text.specs.Names.{names_in, unset, unset_from}
use Rattle.csub_text.specs.Views.{assign_of, expr_of, program_of}
use Rattle.csub_read.specs.NameTests.{UnsetFault}
use Rattle.csub_read.proofs.NameFaults.{unset-set}
use Rattle.csub_read.proofs.UnsetLocals.{filter-none, unset-step, unset-last}
use Rattle.csub_read.proofs.names.check_reads.Goals as goal

pub loop-assign-init : goal.loop-assign-init
loop-assign-init c =
    let p = c.args.program.now in
    let old = λ (n : List ℕ). contains_by (λ (k : Bor (List ℕ)). is_same_name n k.now) c.new-assigned.result in
    sym (ap (λ locals. unset_from locals (map assign_of p.body.items) (expr_of p.answer))
    (filter-none old p.locals.items (λ n. ap (list_any (λ (k : Bor (List ℕ)). is_same_name n k.now)) c.new-assigned.ensures.empty)))

pub returns-in_err-check_set-clause-fault : goal.returns-in_err-check_set-clause-fault
returns-in_err-check_set-clause-fault c =
    let e = err_from_is_err_and c.from_residual-in_err-check_set.result c.from_residual-in_err-check_set.ensures.1 in
    let p = c.args.program.now in
    let i = c.loop-assign.assign-index in
    let item = c.assign-item.result in
    let known = λ (n : List ℕ). contains_by (λ (k : Bor (List ℕ)). is_same_name n k.now) c.in_ok-locals.locals in
    let old = λ (n : List ℕ). contains_by (λ (k : Bor (List ℕ)). is_same_name n k.now) c.loop-assign.assigned in
    let same : (n : List ℕ) → known n ≡ is_among n p.locals.items = λ n. c.in_ok-locals.ensures n ∙ ap (is_among n) c.deref.ensures.value in
    let here : drop i p.body.items ≡ item ∷ drop (i + 1) p.body.items =
    subst (λ items. drop i items ≡ item ∷ drop (i + 1) items) c.deref-assign-items.ensures.value
    (drop-at c.deref-assign-items.result.now i item (omega arith) c.assign-item.is) in
    let left = c.loop-assign.invariant ∙ ap (λ items. unset_from (filter (λ n. not (old n)) p.locals.items) (map assign_of items) (expr_of p.answer)) here in
    rw (e.1, e.2) (unset-set known old p.locals.items (assign_of item) (map assign_of (drop (i + 1) p.body.items)) (expr_of p.answer) same
    (unset (program_of p)) left
    c.in_err-check_set.field-0.0 c.in_err-check_set.ensures.fault)

pub loop-assign-preserved : goal.loop-assign-preserved
loop-assign-preserved c =
    let p = c.args.program.now in
    let i = c.loop-assign.assign-index in
    let item = c.assign-item.result in
    let known = λ (n : List ℕ). contains_by (λ (k : Bor (List ℕ)). is_same_name n k.now) c.in_ok-locals.locals in
    let old = λ (n : List ℕ). contains_by (λ (k : Bor (List ℕ)). is_same_name n k.now) c.loop-assign.assigned in
    let new = λ (n : List ℕ). contains_by (λ (k : Bor (List ℕ)). is_same_name n k.now) c.insert.new.self in
    let same : (n : List ℕ) → known n ≡ is_among n p.locals.items = λ n. c.in_ok-locals.ensures n ∙ ap (is_among n) c.deref.ensures.value in
    let here : drop i p.body.items ≡ item ∷ drop (i + 1) p.body.items =
    subst (λ items. drop i items ≡ item ∷ drop (i + 1) items) c.deref-assign-items.ensures.value
    (drop-at c.deref-assign-items.result.now i item (omega arith) c.assign-item.is) in
    let grows : (n : List ℕ) → new n ≡ cond (is_same_name item.to n) true (old n) =
    λ n. c.in_ok-insert.ensures.updates.0 (record { ref_ptr = (0, 0); now = n }) ∙ ap (λ name. cond (is_same_name name n) true (old n)) c.bytes.ensures in
    c.loop-assign.invariant ∙ ap (λ items. unset_from (filter (λ n. not (old n)) p.locals.items) (map assign_of items) (expr_of p.answer)) here
    ∙ unset-step known old new p.locals.items (assign_of item) (map assign_of (drop (i + 1) p.body.items))
    (expr_of p.answer) same c.in_ok-check_set.ensures.all grows

pub returns-clause-all : goal.returns-clause-all
returns-clause-all c =
    let p = c.args.program.now in
    let i = c.loop-assign.assign-index in
    let known = λ (n : List ℕ). contains_by (λ (k : Bor (List ℕ)). is_same_name n k.now) c.in_ok-locals.locals in
    let old = λ (n : List ℕ). contains_by (λ (k : Bor (List ℕ)). is_same_name n k.now) c.loop-assign.assigned in
    let same : (n : List ℕ) → known n ≡ is_among n p.locals.items = λ n. c.in_ok-locals.ensures n ∙ ap (is_among n) c.deref.ensures.value in
    let none : drop i p.body.items ≡ [] = subst (λ items. drop i items ≡ []) c.deref-assign-items.ensures.value
    (drop_all i c.deref-assign-items.result.now (omega arith)) in
    on_ok_weaker c.check_set-2.result (λ lacks. c.loop-assign.invariant
    ∙ ap (λ items. unset_from (filter (λ n. not (old n)) p.locals.items) (map assign_of items) (expr_of p.answer)) none
    ∙ unset-last known old p.locals.items (expr_of p.answer) same ∙ lacks) c.check_set-2.ensures.all

pub returns-clause-fault : goal.returns-clause-fault
returns-clause-fault c =
    let p = c.args.program.now in
    let i = c.loop-assign.assign-index in
    let known = λ (n : List ℕ). contains_by (λ (k : Bor (List ℕ)). is_same_name n k.now) c.in_ok-locals.locals in
    let old = λ (n : List ℕ). contains_by (λ (k : Bor (List ℕ)). is_same_name n k.now) c.loop-assign.assigned in
    let same : (n : List ℕ) → known n ≡ is_among n p.locals.items = λ n. c.in_ok-locals.ensures n ∙ ap (is_among n) c.deref.ensures.value in
    let none : drop i p.body.items ≡ [] = subst (λ items. drop i items ≡ []) c.deref-assign-items.ensures.value
    (drop_all i c.deref-assign-items.result.now (omega arith)) in
    let found = find (λ n. known n && not (old n)) (names_in (expr_of p.answer)) in
    let is : unset (program_of p) ≡ found = c.loop-assign.invariant
    ∙ ap (λ items. unset_from (filter (λ n. not (old n)) p.locals.items) (map assign_of items) (expr_of p.answer)) none
    ∙ unset-last known old p.locals.items (expr_of p.answer) same in
    subst (λ o. IfFault c.check_set-2.result (UnsetFault o)) (sym is) c.check_set-2.ensures.fault
