-- One reaction, from the values of its instant.
use Rattle.std.proofs.Common.{◌≡◌, ℕ, zero, suc, ◌≤◌, Bool, true, false, List, [], ◌∷◌, length, map, All, refl, sym, ap}
use Rattle.std.proofs.Common.{◌∙◌, subst, arith}
use Rattle.std.specs.List.{list_any}
use Rattle.std.proofs.Common.{take}
use Rattle.std.proofs.lemmas.Bool.{or_parts}
use Rattle.std.proofs.lemmas.List.{length-append, length-map, length-take-le}
use Rattle.grc_formulas.specs.declared.table.Words.{Words}
use Rattle.grc_ternary_gates.specs.declared.gates.System.{System}
use Rattle.grc_graph.specs.declared.graph.Graph.{Graph}
use Rattle.grc_graph.specs.GraphRuns.{formula_value, shown}
use Rattle.grc_graph.specs.PlainGraphs.{names_of, plain_graph}
use Rattle.grc_graph.specs.Readings.{Valuation}
use Rattle.grc_evaluate.specs.declared.rows.Start.{Start}
use Rattle.grc_evaluate.specs.Evaluations.{formula_under, start_state}
use Rattle.grc_solutions.specs.Evaluations.{valuation_of}
use Rattle.grc_solutions.specs.GraphWires.{Differ}
use Rattle.grc_ternary.specs.LeastSolutions.{IsLeast, true_wires}
use Rattle.grc_formulas.specs.Occasions.{state_of}
use Rattle.grc_ternary_gates.specs.declared.gates.Value.{Value}
use Rattle.grc_ternary_gates.specs.Systems.{is_unknown, statuses_of}
use Rattle.grc_graph.proofs.Exports.{length-names}
use Rattle.grc_ternary_run.specs.declared.state.State.{State}
use Rattle.grc_ternary_run.specs.Instants.{status_named}
use Rattle.grc_ternary_run.specs.Rooms.{are_true, are_unknown}
use Rattle.grc_ternary_run.specs.Runners.{Stays, Steps, state_in}
use Rattle.grc_ternary_run.specs.States.{ReadsGraph, runner_with}
use Rattle.grc_ternary_run.proofs.Reading.{all-known, true-named, unknown-named}

none-true : (bits : List Bool) → list_any (λ b. b) bits ≡ false → All (λ b. b ≡ false) bits
none-true [] h k d low = absurd (omega arith)
none-true (b ∷ bits) h zero d low = (or_parts b (list_any (λ x. x) bits) h).0
none-true (b ∷ bits) h (suc k) d low = none-true bits (or_parts b (list_any (λ x. x) bits) h).1 k d (omega arith)

-- the solution that an instant found
pub record Found (g : Graph) (old : State) (s : Start) (inputs : List Bool) (vs : List Value) : Type 0 where
  pub differ : Differ (names_of g)
  pub many : length g.wires.items ≤ length vs
  pub boot : s.boot ≡ old.boot
  pub selected : s.selected.now ≡ old.selected.items
  pub inputs_are : s.inputs.now ≡ inputs
  pub least : IsLeast (plain_graph g) (start_state g s) s.inputs.now (status_named (names_of g) (statuses_of vs))

least-is : (g : Graph) (old : State) (s : Start) (inputs : List Bool) (vs : List Value) → Found g old s inputs vs
    → IsLeast (plain_graph g) (state_in (runner_with g old)) inputs (status_named (names_of g) (statuses_of vs))
least-is g old s inputs vs f =
    let T = status_named (names_of g) (statuses_of vs) in
    let q : start_state g s ≡ state_in (runner_with g old) =
    λ i. state_of (plain_graph g).leaves (f.boot i) (f.selected i) in
    subst (λ event. IsLeast (plain_graph g) (state_in (runner_with g old)) event T) f.inputs_are
    (subst (λ x. IsLeast (plain_graph g) x s.inputs.now T) q f.least)

pub stays-by : (g : Graph) (old : State) (s : Start) (inputs : List Bool) (vs : List Value) (unknown : List Bool) → Found g old s inputs vs
    → unknown ≡ are_unknown (length g.wires.items) vs → list_any (λ b. b) unknown ≡ true
    → Stays (runner_with g old) inputs (record (runner_with g old) { unknown = unknown })
stays-by g old s inputs vs unknown f marks some =
    let n = length-names g in
    record {
      statuses = status_named (names_of g) (statuses_of vs);
      least = least-is g old s inputs vs f;
      marks = marks ∙ ap (λ k. are_unknown k vs) (sym n) ∙ unknown-named (names_of g) vs f.differ (let m = f.many in omega arith);
      some = some;
      same = refl;
    }

pub steps-by : (g : Graph) (old : State) (s : Start) (inputs : List Bool) (vs : List Value) (wires : List Bool) (paused : Bool)
    (unknown outputs selected : List Bool) → Found g old s inputs vs → unknown ≡ are_unknown (length g.wires.items) vs
    → list_any (λ b. b) unknown ≡ false → wires ≡ are_true (length g.wires.items) vs
    → outputs ≡ (shown (plain_graph g) (valuation_of (names_of g) wires)).outputs
    → paused ≡ (shown (plain_graph g) (valuation_of (names_of g) wires)).paused
    → selected ≡ map (formula_under g s wires) (plain_graph g).next
    → Steps (runner_with g old) inputs paused
    (record { graph = g; boot = false; selected = selected; outputs = outputs; unknown = unknown })
steps-by g old s inputs vs wires paused unknown outputs selected f marks none are outputs_are paused_is next =
    let names = names_of g in
    let T = status_named names (statuses_of vs) in
    let n = length-names g in
    let many : length names ≤ length vs = let m = f.many in omega arith in
    let V : valuation_of names wires ≡ true_wires T =
    ap (valuation_of names) (are ∙ ap (λ k. are_true k vs) (sym n)) ∙ true-named names vs many in
    let no_unknown : list_any (λ b. b) (are_unknown (length names) vs) ≡ false =
    ap (λ k. list_any (λ b. b) (are_unknown k vs)) n ∙ ap (list_any (λ b. b)) (sym marks) ∙ none in
    let q : start_state g s ≡ state_in (runner_with g old) = λ i. state_of (plain_graph g).leaves (f.boot i) (f.selected i) in
    record {
      statuses = T;
      least = least-is g old s inputs vs f;
      known = all-known names vs many no_unknown;
      outputs = outputs_are ∙ ap (λ (W : Valuation). (shown (plain_graph g) W).outputs) V;
      paused_is = paused_is ∙ ap (λ (W : Valuation). (shown (plain_graph g) W).paused) V;
      next = next ∙ (λ i. map (formula_value (plain_graph g) (q i) (f.inputs_are i) (V i)) (plain_graph g).next);
      later = refl;
      graph = refl;
      settled = none-true unknown none;
    }

-- each wire is a node
pub found-many : (g : Graph) (w : Words) (y : System) (vs : List Value) → ReadsGraph g w y → length vs ≡ length y.gates.items
    → length g.wires.items ≤ length vs
found-many g w y vs r all =
    let each = r.system.gates.each in
    let whole = ap length r.system.whole in
    let parts = length-append r.system.front r.system.table in
    omega arith

pub found-by : (g : Graph) (w : Words) (y : System) (old : State) (s : Start) (inputs : List Bool) (vs : List Value) → ReadsGraph g w y
    → length vs ≡ length y.gates.items → s.boot ≡ old.boot → s.selected.now ≡ old.selected.items → s.inputs.now ≡ inputs
    → IsLeast (plain_graph g) (start_state g s) s.inputs.now (status_named (names_of g) (statuses_of vs)) → Found g old s inputs vs
found-by g w y old s inputs vs r all boot selected given least = record {
  differ = r.differ;
  many = found-many g w y vs r all;
  boot = boot;
  selected = selected;
  inputs_are = given;
  least = least;
}

-- there are as many marks as wires
pub keeps-by : (marks : List Bool) (read vs : List Value) {n m : ℕ} → marks ≡ are_unknown n read → read ≡ vs → m ≤ length vs → n ≡ m → length marks ≡ m
keeps-by marks read vs {n} {m} are same many is =
    let few : n ≤ length read = let e = ap length same in omega arith in
    ap length are ∙ length-map (take n read) is_unknown ∙ length-take-le n read few ∙ is
