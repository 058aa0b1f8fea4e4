use Rattle.std.proofs.Common.{ℕ, ◌||◌, List, [], map, get_or, sym, ap, ◌∙◌, arith, Bor}
use Rattle.std.specs.HashSet.{contains_by}
use Rattle.std.proofs.lemmas.Bool.{not-true, not-false, or_from, or_right}
use Rattle.std.proofs.lemmas.List.{length-map, get_or-map}
use Rattle.base_types.specs.Names.{is_same_name}
use Rattle.net_ir.proofs.Exports.{members-next}
use Rattle.net_expressions.proofs.Again.{again-step, again-found, or-more}
use Rattle.net_expressions.proofs.tables.name_table.Goals as goal

pub returns-then-contains-clause-again : goal.returns-then-contains-clause-again
returns-then-contains-clause-again c =
    let bytes = λ (w : Bor (List ℕ)). w.now in
    let none : Bor (List ℕ) = record { ref_ptr = (0, 0); now = [] } in
    let names = c.args.names.now in
    let i = c.loop-name.name-index in
    let key = get_or names i none in
    let table = λ (n : List ℕ). contains_by (λ (k : Bor (List ℕ)). is_same_name n k.now) c.loop-name.table in
    let before = λ (n : List ℕ). contains_by (λ (k : Bor (List ℕ)). is_same_name n k.now) c.args.before.now in
    let wide = length-map names bytes in
    c.ended.ensures.told
    ∙ sym (c.loop-name.invariant.once
    ∙ again-found (λ n. table n || before n) (map bytes names) i key.now (omega (arith, wide)) (sym (get_or-map bytes names i none key.now (omega arith)))
    (or_right (table key.now) (before key.now) (sym c.contains.ensures ∙ c.if-contains.true)))

pub returns-then-not-branch-clause-again : goal.returns-then-not-branch-clause-again
returns-then-not-branch-clause-again c =
    let bytes = λ (w : Bor (List ℕ)). w.now in
    let none : Bor (List ℕ) = record { ref_ptr = (0, 0); now = [] } in
    let names = c.args.names.now in
    let i = c.loop-name.name-index in
    let key = get_or names i none in
    let table = λ (n : List ℕ). contains_by (λ (k : Bor (List ℕ)). is_same_name n k.now) c.loop-name.table in
    let before = λ (n : List ℕ). contains_by (λ (k : Bor (List ℕ)). is_same_name n k.now) c.args.before.now in
    let wide = length-map names bytes in
    c.ended-then-not-branch.ensures.told
    ∙ sym (c.loop-name.invariant.once
    ∙ again-found (λ n. table n || before n) (map bytes names) i key.now (omega (arith, wide)) (sym (get_or-map bytes names i none key.now (omega arith)))
    (ap (λ b. b || before key.now) (not-false _ (sym c.in_ok-insert.ensures.added ∙ c.if-not-branch.true))))

pub loop-name-preserved : goal.loop-name-preserved
loop-name-preserved c =
    let bytes = λ (w : Bor (List ℕ)). w.now in
    let none : Bor (List ℕ) = record { ref_ptr = (0, 0); now = [] } in
    let names = c.args.names.now in
    let i = c.loop-name.name-index in
    let key = get_or names i none in
    let table = λ (n : List ℕ). contains_by (λ (k : Bor (List ℕ)). is_same_name n k.now) c.loop-name.table in
    let grown = λ (n : List ℕ). contains_by (λ (k : Bor (List ℕ)). is_same_name n k.now) c.insert.new.self in
    let before = λ (n : List ℕ). contains_by (λ (k : Bor (List ℕ)). is_same_name n k.now) c.args.before.now in
    let wide = length-map names bytes in
    let grows = λ (n : List ℕ). c.in_ok-insert.ensures.updates.0 (record { ref_ptr = (0, 0); now = n }) in
    record {
      once = c.loop-name.invariant.once
          ∙ again-step (λ n. table n || before n) (λ n. grown n || before n) (map bytes names) i key.now (omega (arith, wide))
          (sym (get_or-map bytes names i none key.now (omega arith)))
          (or_from (table key.now) (before key.now) (not-true _ (sym c.in_ok-insert.ensures.added ∙ c.if-not-branch.false))
          (sym c.contains.ensures ∙ c.if-contains.false))
          (λ n. or-more (is_same_name key.now n) (table n) (grown n) (before n) (grows n));
      members = λ n. members-next bytes names i none (omega arith) n _ _ (c.loop-name.invariant.members n) (grows n);
    }
