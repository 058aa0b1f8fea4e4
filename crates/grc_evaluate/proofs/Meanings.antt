-- What the formulas of a graph mean at a stage of an evaluation.
use Rattle.std.proofs.Common.{◌≡◌, ℕ, ◌+◌, ◌-◌, ◌<◌, ◌≤◌, zero, suc, Bool, true, false, ◌||◌, min, List, [], ◌∷◌, length, map, drop, slice_index_or, refl, sym}
use Rattle.std.proofs.Common.{◌∙◌, arith, IsTrue, All}
use Rattle.std.specs.List.{list_any}
use Rattle.std.proofs.Common.{length-drop}
use Rattle.std.proofs.lemmas.List.Elements.{All-head, All-tail}
use Rattle.std.proofs.lemmas.List.Sums.{prefix_len-le-length}
use Rattle.base_types.specs.declared.indices.WireId.{WireId}
use Rattle.grc_graph.specs.declared.graph.Graph.{Graph}
use Rattle.grc_graph.specs.Formulas as plain
use Rattle.grc_graph.specs.PlainGraphs.{instances_of, instance_at, names_of, wire_at}
use Rattle.grc_graph.specs.Walk.{is_initial}
use Rattle.grc_solutions.specs.Evaluations.{valuation_of}
use Rattle.grc_formulas.specs.declared.table.Source.{Source}
use Rattle.grc_formulas.specs.declared.table.Source.TheVariants as sources
use Rattle.grc_formulas.specs.declared.table.Words.{Words}
use Rattle.grc_formulas.specs.Occasions.{state_of}
use Rattle.grc_formulas.specs.Rows.{source_value, source_fits}
use Rattle.grc_formulas.specs.WordLaws.{late_bounds, selected_source, is_end_upto, first_end, ends_upto, any_from}
use Rattle.grc_evaluate.specs.declared.rows.Start.{Start}
use Rattle.grc_evaluate.specs.Evaluations.{Stage, surroundings_of, formula_under, value_at}
use Rattle.grc_evaluate.proofs.Stages.{occasion, false-off, wire-named, source-known, early-late}

-- whether this is the first instant
pub boot-is : (leaves : List ℕ) (b : Bool) (bits : List Bool) → b ≡ is_initial (state_of leaves b bits)
boot-is leaves true bits = refl
boot-is leaves false bits = refl

-- the source of a statement reads what there is
pub selected-fits : (g : Graph) (w : Words) (s : Start) (wires rows : List Bool) (n : ℕ) → Stage g w s wires rows
    → IsTrue (source_fits (late_bounds g (length rows)) (selected_source w n))
selected-fits g w s wires rows n st =
    let some = st.words.one_per_statement in
    let at = min n (length w.selected.items - 1) in
    early-late g w.early (length rows) (selected_source w n) st.early (st.words.fit.selected at (sources.Const false) (omega arith))

pub selected-means : (g : Graph) (w : Words) (s : Start) (wires rows : List Bool) (n : ℕ) → Stage g w s wires rows
    → source_value (surroundings_of s wires) rows (selected_source w n) ≡ formula_under g s wires (plain.Selected n)
selected-means g w s wires rows n st =
    source-known g w s wires rows (selected_source w n) st (selected-fits g w s wires rows n st)
    ∙ st.words.selected (occasion g w s wires rows st) n (false-off g wires)

-- the sources of an instance read what there is, once all rows are made
pub kept-fits : (g : Graph) (w : Words) (s : Start) (wires rows : List Bool) (i : ℕ) (d : Source) → Stage g w s wires rows
    → length rows ≡ length w.rows.items → i < length g.instances.list.items
    → IsTrue (source_fits (late_bounds g (length rows)) (slice_index_or w.kept.items i d))
kept-fits g w s wires rows i d st all low = rw all (st.words.fit.kept i d (omega (arith, st.words.one_per_instance.0)))

pub held-fits : (g : Graph) (w : Words) (s : Start) (wires rows : List Bool) (i : ℕ) (d : Source) → Stage g w s wires rows
    → length rows ≡ length w.rows.items → i < length g.instances.list.items
    → IsTrue (source_fits (late_bounds g (length rows)) (slice_index_or w.held.items i d))
held-fits g w s wires rows i d st all low = rw all (st.words.fit.held i d (omega (arith, st.words.one_per_instance.1)))

pub kept-means : (g : Graph) (w : Words) (s : Start) (wires rows : List Bool) (i : ℕ) (d : Source) → Stage g w s wires rows
    → length rows ≡ length w.rows.items → i < length g.instances.list.items
    → source_value (surroundings_of s wires) rows (slice_index_or w.kept.items i d)
    ≡ formula_under g s wires (plain.Kept (instance_at (instances_of g) i).path (instance_at (instances_of g) i).layer)
kept-means g w s wires rows i d st all low =
    source-known g w s wires rows (slice_index_or w.kept.items i d) st (kept-fits g w s wires rows i d st all low)
    ∙ st.words.kept (occasion g w s wires rows st) i d (false-off g wires) low

pub held-means : (g : Graph) (w : Words) (s : Start) (wires rows : List Bool) (i : ℕ) (d : Source) → Stage g w s wires rows
    → length rows ≡ length w.rows.items → i < length g.instances.list.items
    → source_value (surroundings_of s wires) rows (slice_index_or w.held.items i d)
    ≡ formula_under g s wires (plain.Held (instance_at (instances_of g) i).path (instance_at (instances_of g) i).layer)
held-means g w s wires rows i d st all low =
    source-known g w s wires rows (slice_index_or w.held.items i d) st (held-fits g w s wires rows i d st all low)
    ∙ st.words.held (occasion g w s wires rows st) i d (false-off g wires) low

-- one of so many values, by two readings that agree in them
any_from-agrees : (f h : ℕ → Bool) (first count : ℕ) → ((v : ℕ) → v < first + count → f v ≡ h v) → any_from f first count ≡ any_from h first count
any_from-agrees f h first zero same = refl
any_from-agrees f h first (suc count) same =
    let rest = any_from-agrees f h first count (λ v low. same v (omega arith)) in
    let here = same (first + count) (omega arith) in
    λ i. rest i || here i

pub upto-means : (g : Graph) (w : Words) (s : Start) (wires rows : List Bool) (i k : ℕ) → Stage g w s wires rows → i < length g.instances.list.items
    → any_from (value_at wires) (first_end w i) (ends_upto g w i k)
    ≡ formula_under g s wires (plain.Upto (instance_at (instances_of g) i).path (instance_at (instances_of g) i).layer k)
upto-means g w s wires rows i k st low =
    let first = first_end w i in
    let within : first ≤ length g.wires.items = st.words.fit.ends i (record { 0 = 0 }) (omega (arith, st.words.one_per_instance.2)) in
    let most = prefix_len-le-length (is_end_upto i k) (drop first g.wires.items) in
    let rest = length-drop first g.wires.items in
    any_from-agrees (value_at wires) (λ v. valuation_of (names_of g) wires (wire_at (names_of g) v)) first (ends_upto g w i k)
    (λ v below. sym (wire-named g w s wires rows v st (omega arith)))
    ∙ st.words.upto (occasion g w s wires rows st) i k (false-off g wires) low

-- the or of wires
any-values : (V : ℕ → Bool) (R : plain.Formula → Bool) (name : ℕ → plain.Formula) (list : List WireId) → R (plain.Const false) ≡ false
    → ((a b : plain.Formula) → R (plain.Disjunction a b) ≡ (R a || R b)) → All (λ v. V v.0 ≡ R (name v.0)) list
    → list_any (λ v. V v.0) list ≡ R (plain.any_of (map (λ v. name v.0) list))
any-values V R name [] none either same = sym none
any-values V R name (v ∷ []) none either same = or-false (V v.0) ∙ All-head (λ (x : WireId). V x.0 ≡ R (name x.0)) v [] same where
  or-false : (b : Bool) → (b || false) ≡ b
  or-false true = refl
  or-false false = refl
any-values V R name (v ∷ (u ∷ list)) none either same =
    let here = All-head (λ (x : WireId). V x.0 ≡ R (name x.0)) v (u ∷ list) same in
    let rest = any-values V R name (u ∷ list) none either (All-tail (λ (x : WireId). V x.0 ≡ R (name x.0)) v (u ∷ list) same) in
    (λ i. here i || rest i) ∙ sym (either (name v.0) (plain.any_of (map (λ (x : WireId). name x.0) (u ∷ list))))

pub any-means : (g : Graph) (w : Words) (s : Start) (wires rows : List Bool) (list : List WireId) → Stage g w s wires rows
    → All (λ v. v.0 < length g.wires.items) list
    → list_any (λ v. value_at wires v.0) list
    ≡ formula_under g s wires (plain.any_of (map (λ (v : WireId). plain.Value (wire_at (names_of g) v.0)) list))
any-means g w s wires rows list st low =
    any-values (value_at wires) (formula_under g s wires) (λ v. plain.Value (wire_at (names_of g) v)) list refl (λ a b. refl)
    (λ k d h. sym (wire-named g w s wires rows (slice_index_or list k d).0 st (low k d h)))
