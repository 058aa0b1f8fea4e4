-- What is read off an instant in which each wire is known.
use Rattle.std.proofs.Common.{◌≡◌, ℕ, zero, suc, ◌<◌, ◌≤◌, Bool, true, false, List, [], ◌∷◌, length, map, take, slice_index_or}
use Rattle.std.proofs.Common.{IsTrue, refl, sym, ap, ◌∙◌, subst, inl, inr, arith}
use Rattle.std.specs.List.{list_any}
use Rattle.std.proofs.lemmas.Bool.{cases_Bool, cond-true, cond-false, false≢true}
use Rattle.std.proofs.lemmas.List.{take_all, get_or-map, get_or-take, length-map, length-take-le, ext_get_or}
use Rattle.est_kernel.specs.Statuses.{Status, known}
use Rattle.grc_graph.specs.declared.graph.Graph.{Graph}
use Rattle.grc_graph.specs.GraphRuns.{shown}
use Rattle.grc_graph.specs.PlainGraphs.{names_of, plain_graph}
use Rattle.grc_graph.specs.Wires.{Wire, Go, same_wire}
use Rattle.grc_graph.specs.Layers.{Resumed}
use Rattle.grc_evaluate.specs.declared.rows.Start.{Start}
use Rattle.grc_evaluate.specs.Evaluations.{Begins, Late, surroundings_of}
use Rattle.grc_evaluate.proofs.Exports.{false-off, occasion, source-known}
use Rattle.grc_solutions.specs.Evaluations.{valuation_of}
use Rattle.grc_solutions.specs.GraphWires.{Differ}
use Rattle.grc_ternary.specs.LeastSolutions.{IsKnown, is_plus, true_wires}
use Rattle.grc_formulas.specs.Rows.{row_values, source_fits, source_value}
use Rattle.grc_formulas.specs.WordLaws.{late_bounds}
use Rattle.grc_formulas.specs.declared.table.Words.{Words}
use Rattle.grc_formulas.proofs.Exports.{length-row_values}
use Rattle.grc_ternary_gates.specs.declared.gates.Value.{Value}
use Rattle.grc_ternary_gates.specs.declared.gates.Value.TheVariants as values
use Rattle.grc_ternary_gates.specs.Systems.{is_unknown, status_of, statuses_of}
use Rattle.grc_ternary_run.specs.Instants.{status_named}
use Rattle.grc_ternary.specs.TriRuns as tri_runs
use Rattle.grc_ternary_run.proofs.Naming.{named-there}
use Rattle.grc_ternary_run.specs.Rooms.{are_true, are_unknown, is_true}

-- all rows are made
pub made-late : (g : Graph) (w : Words) (s : Start) (wires rows : List Bool) → Begins g w s → length wires ≡ length g.wires.items
    → rows ≡ row_values (surroundings_of s wires) [] w.rows.items → Late g w s wires rows
made-late g w s wires rows b each made =
    let S = surroundings_of s wires in
    let all = w.rows.items in
    let many : length rows ≡ length all = omega (arith, ap length made, length-row_values S [] all) in
    let e = b.words.fit.early in
    record {
      stage = record {
        words = b.words;
        differ = b.differ;
        leaves = b.leaves;
        given = b.given;
        first = b.first;
        each_wire = each;
        early = omega arith;
        known = made ∙ ap (row_values S []) (sym (take_all (length rows) all (omega arith)));
      };
      all = many;
    }

-- whether the program pauses
pub paused-means : (g : Graph) (w : Words) (s : Start) (wires rows : List Bool) → Late g w s wires rows
    → source_value (surroundings_of s wires) rows w.paused ≡ (shown (plain_graph g) (valuation_of (names_of g) wires)).paused
paused-means g w s wires rows m =
    source-known g w s wires rows w.paused m.stage
    (subst (λ n. IsTrue (source_fits (late_bounds g n) w.paused)) (sym m.all) m.stage.words.fit.paused)
    ∙ m.stage.words.paused (occasion g w s wires rows m.stage) (false-off g wires)

true-status : (v : Value) → is_true v ≡ is_plus (status_of v)
true-status values.Unknown = refl
true-status values.False = refl
true-status values.True = refl

-- the values of wires by name, from a list or by their statuses
values-named : (ws : List Wire) (bits : List Bool) (V : ℕ → Status) → length bits ≡ length ws
    → ((v : ℕ) → v < length ws → slice_index_or bits v false ≡ is_plus (V v)) → (u : Wire) → valuation_of ws bits u ≡ is_plus (status_named ws V u)
values-named [] bits V len same u = refl
values-named (w ∷ ws) [] V len same u = absurd (omega arith)
values-named (w ∷ ws) (b ∷ bits) V len same u = elim (cases_Bool (same_wire u w)) [
  | inl here ↦
      cond-true (same_wire u w) b (valuation_of ws bits u) here ∙ same 0 (omega arith)
      ∙ ap is_plus (sym (cond-true (same_wire u w) (V 0) (status_named ws (λ n. V (suc n)) u) here))
  | inr other ↦
      cond-false (same_wire u w) b (valuation_of ws bits u) other
      ∙ values-named ws bits (λ n. V (suc n)) (omega arith) (λ v low. same (suc v) (omega arith)) u
      ∙ ap is_plus (sym (cond-false (same_wire u w) (V 0) (status_named ws (λ n. V (suc n)) u) other))
]

pub true-named : (ws : List Wire) (vs : List Value) → length ws ≤ length vs
    → valuation_of ws (are_true (length ws) vs) ≡ true_wires (status_named ws (statuses_of vs))
true-named ws vs le =
    let n = length ws in
    let many : length (are_true n vs) ≡ n = length-map (take n vs) is_true ∙ length-take-le n vs le in
    let at : (v : ℕ) → v < n → slice_index_or (are_true n vs) v false ≡ is_plus (statuses_of vs v) = λ v low.
    get_or-map is_true (take n vs) v values.Unknown false (let l = length-take-le n vs le in omega arith)
    ∙ ap is_true (get_or-take n vs v values.Unknown low) ∙ true-status (slice_index_or vs v values.Unknown) in
    let all = values-named ws (are_true n vs) (statuses_of vs) many at in
    λ i u. all u i

-- where no wire is unknown, each name is known
known-named : (ws : List Wire) (V : ℕ → Status) → ((v : ℕ) → v < length ws → (b : Bool) × (V v ≡ known b)) → IsKnown (status_named ws V)
known-named [] V each u = (false, refl)
known-named (w ∷ ws) V each u = elim (cases_Bool (same_wire u w)) [
  | inl here ↦ let r = each 0 (omega arith) in (r.0, cond-true (same_wire u w) (V 0) (status_named ws (λ n. V (suc n)) u) here ∙ r.1)
  | inr other ↦
      let r = known-named ws (λ n. V (suc n)) (λ v low. each (suc v) (omega arith)) u in
      (r.0, cond-false (same_wire u w) (V 0) (status_named ws (λ n. V (suc n)) u) other ∙ r.1)
]

none-unknown : (vs : List Value) (n v : ℕ) → list_any (λ b. b) (are_unknown n vs) ≡ false → v < n → v < length vs
    → (b : Bool) × (statuses_of vs v ≡ known b)
none-unknown [] n v h low l = absurd (omega arith)
none-unknown (x ∷ vs) zero v h low l = absurd (omega arith)
none-unknown (values.Unknown ∷ vs) (suc n) v h low l = absurd (false≢true (sym h))
none-unknown (values.False ∷ vs) (suc n) zero h low l = (false, refl)
none-unknown (values.False ∷ vs) (suc n) (suc v) h low l = none-unknown vs n v h (omega arith) (omega arith)
none-unknown (values.True ∷ vs) (suc n) zero h low l = (true, refl)
none-unknown (values.True ∷ vs) (suc n) (suc v) h low l = none-unknown vs n v h (omega arith) (omega arith)

pub all-known : (ws : List Wire) (vs : List Value) → length ws ≤ length vs → list_any (λ b. b) (are_unknown (length ws) vs) ≡ false
    → IsKnown (status_named ws (statuses_of vs))
all-known ws vs le none = known-named ws (statuses_of vs) (λ v low. none-unknown vs (length ws) v none low (omega arith))

unknown-same : (v : Value) → is_unknown v ≡ tri_runs.is_unknown (status_of v)
unknown-same values.Unknown = refl
unknown-same values.False = refl
unknown-same values.True = refl

-- which wires are unknown, by their numbers and by their names
pub unknown-named : (ws : List Wire) (vs : List Value) → Differ ws → length ws ≤ length vs
    → are_unknown (length ws) vs ≡ map (λ w. tri_runs.is_unknown (status_named ws (statuses_of vs) w)) ws
unknown-named ws vs differ le =
    let n = length ws in
    let T = status_named ws (statuses_of vs) in
    let many : length (are_unknown n vs) ≡ n = length-map (take n vs) is_unknown ∙ length-take-le n vs le in
    ext_get_or false (are_unknown n vs) (map (λ w. tri_runs.is_unknown (T w)) ws) (many ∙ sym (length-map ws (λ w. tri_runs.is_unknown (T w))))
    (λ v low.
    let under : v < n = omega arith in
    get_or-map is_unknown (take n vs) v values.Unknown false (let l = length-take-le n vs le in omega arith)
    ∙ ap is_unknown (get_or-take n vs v values.Unknown under) ∙ unknown-same (slice_index_or vs v values.Unknown)
    ∙ ap tri_runs.is_unknown (sym (named-there ws (statuses_of vs) differ v under))
    ∙ sym (get_or-map (λ w. tri_runs.is_unknown (T w)) ws v (Go 0 Resumed) false under))
