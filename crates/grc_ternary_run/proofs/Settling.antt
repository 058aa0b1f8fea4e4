-- The least solution of a graph's system in an instant is that of the graph.
use Rattle.std.proofs.Common.{◌≡◌, ℕ, suc, ◌+◌, ◌-◌, ◌<◌, Bool, true, false, nat_lt, if◌then◌else◌, min, List, [], ◌∷◌, ◌++◌, length, map, take}
use Rattle.std.proofs.Common.{slice_index_or, All, refl, sym, ap, ◌∙◌, subst, arith}
use Rattle.std.proofs.lemmas.Bool.{ltb-true, ltb-false}
use Rattle.std.proofs.lemmas.List.{get_or-map, get_or_append_left, get_or-append-add, get_or_past}
use Rattle.est_kernel.specs.Reactions.{is_given}
use Rattle.est_kernel.specs.Statuses.{Status}
use Rattle.grc_graph.specs.declared.graph.Graph.{Graph}
use Rattle.grc_graph.specs.PlainGraphs.{names_of, plain_graph}
use Rattle.grc_graph.specs.Readings.{state_holds_at}
use Rattle.grc_evaluate.specs.declared.rows.Start.{Start}
use Rattle.grc_evaluate.specs.Evaluations.{Begins, IsKnown, Stage, start_state, surroundings_of}
use Rattle.grc_evaluate.proofs.Exports.{source-agrees, begun, boot-is, selected-means}
use Rattle.grc_ternary.specs.LeastSolutions.{IsLeast}
use Rattle.grc_formulas.specs.declared.table.Source.TheVariants as sources
use Rattle.grc_formulas.specs.declared.table.Words.{Words}
use Rattle.grc_formulas.specs.Rows.{row_values, source_value}
use Rattle.grc_formulas.specs.WordLaws.{early_bounds, selected_source}
use Rattle.grc_ternary_gates.specs.declared.gates.System.{System}
use Rattle.grc_ternary_gates.specs.Systems.{IsLeastSolution}
use Rattle.grc_ternary_gates.proofs.Exports.{least-of-wires}
use Rattle.grc_ternary_run.specs.declared.numbers.Counts.{Counts}
use Rattle.grc_ternary_run.specs.Instants.{AreSources, Instant, status_named}
use Rattle.grc_ternary_run.specs.Meanings.{meaning_in}
use Rattle.grc_ternary_run.specs.Numbers.{input_number, selected_number, shape}
use Rattle.grc_ternary_run.specs.Rooms.{sources_in}
use Rattle.grc_ternary_run.specs.Systems.{CountsOf, IsSystemOf, equation_at}
use Rattle.grc_ternary_run.proofs.Naming.{least-named}

-- the instant that a graph begins with
abbrev pub instant : (g : Graph) (w : Words) (s : Start) → Begins g w s → Instant g
instant g w s b = record {
  boot = s.boot;
  bits = s.selected.now;
  event = s.inputs.now;
  one_per_leaf = b.leaves;
  one_per_given = b.given;
  unselected = b.first;
}

-- what stands behind the first three sources
pub behind : (a b c : Bool) (xs : List Bool) (k : ℕ) → slice_index_or (a ∷ (b ∷ (c ∷ xs))) (3 + k) false ≡ slice_index_or xs k false
behind a b c xs k = let e : 3 + k ≡ suc (suc (suc k)) = omega arith in ap (λ n. slice_index_or (a ∷ (b ∷ (c ∷ xs))) n false) e

inputs-are : (g : Graph) (w : Words) (c : Counts) (s : Start) (rows : List Bool) (n : ℕ) → CountsOf g w c → Begins g w s
    → slice_index_or (sources_in w s rows) (input_number c n) false ≡ is_given s.inputs.now n
inputs-are g w c s rows n counted b = by (nat_lt n c.given) refl where
  by : (x : Bool) → nat_lt n c.given ≡ x → slice_index_or (sources_in w s rows) (if x then 3 + n else 0) false ≡ is_given s.inputs.now n
  by true e =
      let low = ltb-true n c.given e in
      let given = b.given in
      let all = counted.given in
      let others = map (source_value (surroundings_of s []) rows) w.selected.items in
      behind false true s.boot (s.inputs.now ++ others) n ∙ get_or_append_left s.inputs.now others false n (omega arith)
  by false e =
      let high = ltb-false n c.given e in
      let given = b.given in
      let all = counted.given in
      sym (get_or_past s.inputs.now n false (omega arith))

selected-are : (g : Graph) (w : Words) (c : Counts) (s : Start) (wires rows : List Bool) (n : ℕ) → CountsOf g w c → Stage g w s wires rows
    → slice_index_or (sources_in w s rows) (selected_number c n) false ≡ state_holds_at (start_state g s) (plain_graph g).body n
selected-are g w c s wires rows n counted st =
    let F = source_value (surroundings_of s []) rows in
    let at = min n (length w.selected.items - 1) in
    let some = st.words.one_per_statement in
    let low : at < length w.selected.items = omega arith in
    let given : c.given ≡ length s.inputs.now = counted.given ∙ sym st.given in
    let place : selected_number c n ≡ 3 + (length s.inputs.now + at) =
    (λ i. 3 + given i + min n (counted.statements i - 1)) ∙ omega arith in
    let x = selected_source w n in
    ap (λ k. slice_index_or (sources_in w s rows) k false) place
    ∙ behind false true s.boot (s.inputs.now ++ map F w.selected.items) (length s.inputs.now + at)
    ∙ get_or-append-add s.inputs.now (map F w.selected.items) at false
    ∙ get_or-map F w.selected.items at (sources.Const false) false low
    ∙ source-agrees (early_bounds g w.early) (surroundings_of s []) (surroundings_of s wires) rows x
    (record { leaves = refl; event = refl; wires = λ v h. absurd (omega arith) }) (st.words.fit.selected at (sources.Const false) low)
    ∙ selected-means g w s wires rows n st

pub sources-are : (g : Graph) (w : Words) (c : Counts) (s : Start) (wires rows : List Bool) (b : Begins g w s) → CountsOf g w c → Stage g w s wires rows
    → AreSources g c (start_state g s) (instant g w s b) (sources_in w s rows)
sources-are g w c s wires rows b counted st = record {
  fixed = record { zero = refl; one = refl };
  boot = boot-is (plain_graph g).leaves s.boot s.selected.now;
  input = λ n. inputs-are g w c s rows n counted b;
  selected = λ n. selected-are g w c s wires rows n counted st;
}

-- the least solution of the system, where the sources have the values of the instant
pub settled : (g : Graph) (w : Words) (y : System) (s : Start) (wires rows : List Bool) (V : ℕ → Status) → Begins g w s → Stage g w s wires rows
    → All (λ f. IsKnown ⊥ f) g.equations.items → IsSystemOf g w y → IsLeastSolution y.gates.items (sources_in w s rows) V
    → IsLeast (plain_graph g) (start_state g s) s.inputs.now (status_named (names_of g) V)
settled g w y s wires rows V b st plain_all sys l =
    let S = sources_in w s rows in
    let are = sources-are g w sys.counts s wires rows b sys.counted st in
    let whole = subst (λ gs. IsLeastSolution gs S V) sys.whole l in
    least-named g w sys.counts (instant g w s b) S (start_state g s) V b.words b.differ plain_all are
    (least-of-wires (shape g sys.counts) sys.front sys.table (λ v. meaning_in g w sys.counts (equation_at g v)) S V sys.gates are.fixed whole)

-- the same, as the values are made
pub settled-by : (g : Graph) (w : Words) (y : System) (s : Start) (wires rows sources : List Bool) (V : ℕ → Status) → Begins g w s
    → All (λ f. IsKnown ⊥ f) g.equations.items → IsSystemOf g w y → length wires ≡ length g.wires.items
    → rows ≡ row_values (surroundings_of s wires) [] (take w.early w.rows.items) → sources ≡ sources_in w s rows
    → IsLeastSolution y.gates.items sources V → IsLeast (plain_graph g) (start_state g s) s.inputs.now (status_named (names_of g) V)
settled-by g w y s wires rows sources V b plain_all sys each made given l =
    settled g w y s wires rows V b (begun g w s wires [] rows w.rows.items b each refl refl made).stage plain_all sys
    (subst (λ xs. IsLeastSolution y.gates.items xs V) given l)
