-- The equations of a program's graph, by the numbers of its statements.
use Rattle.std.proofs.Common.{◌≡◌, ℕ, ◌<◌, Bool, true, List, [], ◌∷◌, ◌++◌, length, map, get_or, refl, sym, ◌∙◌, subst}
use Rattle.std.proofs.Common.{⊎_elim, arith}
use Rattle.std.specs.Prelude.{Contains}
use Rattle.std.specs.List.{flat_map}
use Rattle.std.proofs.lemmas.Bool.{cases_order, false≢true}
use Rattle.std.proofs.lemmas.List.{get_or-map, length-map}
use Rattle.std.proofs.lemmas.List.Elements.{All-contains, Contains-append_left, Contains-append_right}
use Rattle.base_facts.proofs.Lists.{contains-flat_map, contains-map}
use Rattle.est_kernel.specs.Plain.{Program, given_count, interface_of}
use Rattle.est_kernel.specs.Terms.{Term, Local}
use Rattle.est_kernel.specs.WellFormed.{IsKernel, KeepsLimits}
use Rattle.grc_graph.specs.Equations.{Equation, emissions, end_formula, instance_equations, instance_status, output_equation}
use Rattle.grc_graph.specs.Formulas.{any_of}
use Rattle.grc_graph.specs.GraphRuns.{SolvesGraph, formula_value, graph_of, program_spots}
use Rattle.grc_graph.specs.Instances.{body_instances}
use Rattle.grc_graph.specs.Layers.{Layer}
use Rattle.grc_graph.specs.Readings.{Valuation}
use Rattle.grc_graph.specs.Rows.{entry_formula, program_rows, row_at, spot_at}
use Rattle.grc_graph.specs.Selected.{HasExitCodes}
use Rattle.grc_graph.specs.Spots.{Spot}
use Rattle.grc_graph.specs.Walk.{State}
use Rattle.grc_graph.specs.WireTables.{is_local}
use Rattle.grc_graph.specs.Wires.{Go, StatusOf, End, instance_codes, listed}
use Rattle.grc_graph.proofs.Exports.{LiveAt, instance_live, codes_below-kernel, program_kernel, program_spots_by_row}
use Rattle.grc_share.specs.SharedGraphs.{formula_for}
use Rattle.grc_share.proofs.Exports.{formula_for-at}
use Rattle.grc_solutions.specs.GraphWires.{Differ, equation_wires}
use Rattle.grc_solutions.proofs.Exports.{wires_differ_lem}
use Rattle.grc_share_laws.proofs.Lists.{listed-in}

equations-apart : (es : List Equation) → Differ (equation_wires es) → (i j : ℕ) (d : Equation) → i < length es → j < length es
    → (get_or es i d).wire ≡ (get_or es j d).wire → i ≡ j
equations-apart es h i j d l m e =
    ⊎_elim (λ q. q) (λ x. ⊎_elim (λ a. absurd (apart i j a l m e)) (λ a. absurd (apart j i a m l (sym e))) x) (cases_order i j)
  where
    apart : (i j : ℕ) → i < j → i < length es → j < length es → (get_or es i d).wire ≡ (get_or es j d).wire → ⊥
    apart i j a l m e =
        h i j d.wire a (omega (arith, m, length-map es (λ (x : Equation). x.wire)))
        (get_or-map (λ (x : Equation). x.wire) es i d d.wire l ∙ e ∙ sym (get_or-map (λ (x : Equation). x.wire) es j d d.wire m))

module _ (p : Program) (kernel : IsKernel p.body) (limits : KeepsLimits p.body) (codes : HasExitCodes p.body) where
  -- the formula of an equation's wire is its own
  pub formula-is : (e : Equation) → Contains (graph_of p).equations e → formula_for (graph_of p).equations e.wire ≡ e.formula
  formula-is e c =
      let es = (graph_of p).equations in
      let differ = wires_differ_lem p codes in
      let at = formula_for-at es c.0 e c.1 (equations-apart es (subst Differ (sym differ.0) differ.1)) in
      subst (λ (x : Equation). formula_for (graph_of p).equations x.wire ≡ x.formula) c.2 at

  abbrev spot-of : ℕ → Layer → Spot
  spot-of n l = spot_at (program_rows p) (record { path = n; layer = l })

  -- a live instance
  pub spot-there : (n : ℕ) (l : Layer) → LiveAt p n l → Contains (program_spots p) (spot_at (program_rows p) (record { path = n; layer = l }))
  spot-there n l at =
      subst (λ xs. Contains xs (spot-of n l)) (sym (program_spots_by_row p kernel))
      (contains-map (spot_at (program_rows p)) (body_instances p.body) (record { path = n; layer = l }) (instance_live p n l at.within at.live))

  -- ---- the equations

  instance-there : (n : ℕ) (l : Layer) (e : Equation) → LiveAt p n l → Contains (instance_equations (program_spots p) (spot-of n l)) e
      → Contains (graph_of p).equations e
  instance-there n l e at c =
      let all = program_spots p in
      Contains-append_right (map (output_equation (given_count p) all) (interface_of p).outgoing) (flat_map (instance_equations all) all) e
      (contains-flat_map (instance_equations all) all (spot-of n l) e (spot-there n l at) c)

  abbrev go-equation : ℕ → Layer → Equation
  go-equation n l = record {
    wire = Go n l;
    formula = entry_formula (row_at (program_rows p) n).scope (row_at (program_rows p) n).entry n l;
  }

  pub go-there : (n : ℕ) (l : Layer) → LiveAt p n l → Contains (graph_of p).equations (record {
    wire = Go n l;
    formula = entry_formula (row_at (program_rows p) n).scope (row_at (program_rows p) n).entry n l;
  })
  go-there n l at = instance-there n l (go-equation n l) at (0, omega arith, refl)

  abbrev end-equation : ℕ → Layer → ℕ → Equation
  end-equation n l k = record {
    wire = End n l k;
    formula = end_formula (row_at (program_rows p) n).scope (row_at (program_rows p) n).statement n l k;
  }

  pub end-there : (n : ℕ) (l : Layer) (k : ℕ) → LiveAt p n l → instance_codes (row_at (program_rows p) n).statement l k ≡ true
      → Contains (graph_of p).equations (record {
        wire = End n l k;
        formula = end_formula (row_at (program_rows p) n).scope (row_at (program_rows p) n).statement n l k;
      })
  end-there n l k at has =
      let x = spot-of n l in
      let A = instance_codes x.statement l in
      let ends = map (end-equation n l) (listed A) in
      let own = instance_status (program_spots p) x.statement n l in
      instance-there n l (end-equation n l k) at
      (Contains-append_right (go-equation n l ∷ []) (own ++ ends) (end-equation n l k)
      (Contains-append_right own ends (end-equation n l k)
      (listed-in (end-equation n l) A k (codes_below-kernel x.statement l k (program_kernel p n kernel limits at.within) has) has)))

  abbrev status-equation : ℕ → Layer → Equation
  status-equation n l = record { wire = StatusOf n l; formula = any_of (emissions (StatusOf n l) (program_spots p)) }

  pub status-there : (n : ℕ) (l : Layer) → LiveAt p n l → is_local (row_at (program_rows p) n).statement ≡ true
      → Contains (graph_of p).equations (record { wire = StatusOf n l; formula = any_of (emissions (StatusOf n l) (program_spots p)) })
  status-there n l at has =
      let x = spot-of n l in
      let ends = map (end-equation n l) (listed (instance_codes x.statement l)) in
      let own = instance_status (program_spots p) x.statement n l in
      instance-there n l (status-equation n l) at
      (Contains-append_right (go-equation n l ∷ []) (own ++ ends) (status-equation n l)
      (Contains-append_left own ends (status-equation n l) (local x.statement has)))
    where
      local : (t : Term) → is_local t ≡ true → Contains (instance_status (program_spots p) t n l) (status-equation n l)
      local (Local s b) e = (0, omega arith, refl)
      local _ e = absurd (false≢true e)

  pub out-there-equation : (s : ℕ) → Contains (interface_of p).outgoing s → Contains (graph_of p).equations (output_equation (given_count p)
      (program_spots p) s)
  out-there-equation s c =
      let all = program_spots p in
      Contains-append_left (map (output_equation (given_count p) all) (interface_of p).outgoing) (flat_map (instance_equations all) all)
      (output_equation (given_count p) all s) (contains-map (output_equation (given_count p) all) (interface_of p).outgoing s c)

  -- ---- the formulas of wires

  pub go-formula : (n : ℕ) (l : Layer) → LiveAt p n l
      → formula_for (graph_of p).equations (Go n l) ≡ entry_formula (row_at (program_rows p) n).scope (row_at (program_rows p) n).entry n l
  go-formula n l at = formula-is (go-equation n l) (go-there n l at)

  pub end-formula : (n : ℕ) (l : Layer) (k : ℕ) → LiveAt p n l → instance_codes (row_at (program_rows p) n).statement l k ≡ true
      → formula_for (graph_of p).equations (End n l k)
      ≡ end_formula (row_at (program_rows p) n).scope (row_at (program_rows p) n).statement n l k
  end-formula n l k at has = formula-is (end-equation n l k) (end-there n l k at has)

  module _ (q : State) (event : List Bool) (V : Valuation) (solves : SolvesGraph (graph_of p) q event V) where
    pub met : (e : Equation) → Contains (graph_of p).equations e → V e.wire ≡ formula_value (graph_of p) q event V e.formula
    met e c = All-contains (λ (x : Equation). V x.wire ≡ formula_value (graph_of p) q event V x.formula) (graph_of p).equations e solves.met c

    pub go-met : (n : ℕ) (l : Layer) → LiveAt p n l → V (Go n l)
        ≡ formula_value (graph_of p) q event V (entry_formula (row_at (program_rows p) n).scope (row_at (program_rows p) n).entry n l)
    go-met n l at = met (go-equation n l) (go-there n l at)

    pub end-met : (n : ℕ) (l : Layer) (k : ℕ) → LiveAt p n l → instance_codes (row_at (program_rows p) n).statement l k ≡ true
        → V (End n l k)
        ≡ formula_value (graph_of p) q event V (end_formula (row_at (program_rows p) n).scope (row_at (program_rows p) n).statement n l k)
    end-met n l k at has = met (end-equation n l k) (end-there n l k at has)
