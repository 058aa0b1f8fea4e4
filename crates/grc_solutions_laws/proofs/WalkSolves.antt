-- The valuations that solve a program's graph are those of the walk.
use Rattle.std.proofs.Common.{◌≡◌, ℕ, zero, suc, ◌+◌, ◌<◌, ◌≤◌, Bool, true, ◌&&◌, ◌||◌, List, length, map, refl, sym, ap, ◌∙◌, subst, inl, ⊎_elim, arith}
use Rattle.std.specs.Prelude.{Contains}
use Rattle.std.specs.List.{list_any, flat_map, range_with_len}
use Rattle.std.proofs.lemmas.Bool.{false_from_ne_true, false≢true}
use Rattle.std.proofs.lemmas.List.Elements.{All-contains}
use Rattle.base_facts.proofs.Lists.{Every, all-of-every, every-append}
use Rattle.est_kernel.specs.Plain.{Program, outgoing_count, given_count}
use Rattle.est_kernel.specs.Terms.{Term, Local}
use Rattle.est_kernel.specs.StaticCodes.{has_code, resumed_codes, NoInstantLoop}
use Rattle.est_kernel.specs.Reactions.{is_given}
use Rattle.grc_graph.specs.Layers.{Layer, Resumed, Started, body_layers, body_liveness}
use Rattle.grc_graph.specs.Scopes.{Scope}
use Rattle.grc_graph.specs.Wires.{Wire, Out, StatusOf, End, same_wire, listed, instance_codes}
use Rattle.grc_graph.specs.Spots.{Spot, body_entry}
use Rattle.grc_graph.specs.Equations.{Equation, equations, end_formula, emissions, instance_status, instance_equations, output_equation}
use Rattle.grc_graph.specs.Residuals.{holds}
use Rattle.grc_graph.specs.Walk.{Values, State, is_initial}
use Rattle.grc_graph.specs.Selected.{HasExitCodes, IsState}
use Rattle.grc_graph.specs.Readings.{Valuation, seen_values, state_holds_at}
use Rattle.grc_graph.specs.GraphRuns.{SolvesGraph, graph_of, program_spots}
use Rattle.grc_solutions.specs.GraphWires.{program_wires}
use Rattle.grc_solutions.proofs.Exports.{every_from, every_contained, every_at, EachStarted, EachResumed, given_contained, given_at, equation_of}
use Rattle.grc_solutions.proofs.Exports.{equation_wires_are, every_mapped, every_flat, listed_every, gathered}
use Rattle.grc_graph.proofs.Exports.{body_agrees}
use Rattle.grc_solutions_laws.specs.GraphWalks.{selected_of, graph_walk, IsWalkOf}
use Rattle.grc_solutions_laws.specs.Laws.{EquationsAreTheWalk}
use Rattle.grc_solutions_laws.proofs.EndForms.{val, any_meaning}
use Rattle.grc_solutions_laws.proofs.Meets.{Met, StatusMet, finds_self}
use Rattle.grc_solutions_laws.proofs.Joint.{MetRow, emissions_any}
use Rattle.grc_solutions_laws.proofs.Tops.{state_finds, state_reach}
use Rattle.grc_solutions_laws.proofs.Tops as tops
use Rattle.grc_solutions_laws.proofs.Solutions.{top_started, top_resumed, output_value}
use Rattle.grc_solutions_laws.proofs.WalksMeet.{meets_started, meets_resumed}

pub range_bounds : (a k : ℕ) → Every (λ o. (a ≤ o) × (o < a + k)) (range_with_len a k)
range_bounds a zero = tt
range_bounds a (suc k) = (
  (omega arith, omega arith),
  every_from (λ o. (a + 1 ≤ o) × (o < a + 1 + k)) (λ o. (a ≤ o) × (o < a + suc k)) (range_with_len (a + 1) k) (λ o h. (omega (arith, h.0), omega (arith, h.1)))
      (range_bounds (a + 1) k),
)

-- an instance that meets its equations, equation by equation
module _ (B0 : Scope) (body : Term) (q : State) (event : List Bool) (V : Valuation) (all : List Spot) where
  abbrev Row : Equation → Type 0
  Row e = MetRow B0 body q (is_given event) V all e

  status_row : (t : Term) (n : ℕ) (l : Layer) → StatusMet V all t n l → Every Row (instance_status all t n l)
  status_row (Local s p) n l h =
      (h ∙ sym (any_meaning B0 body q (is_given event) V (emissions (StatusOf n l) all) ∙ emissions_any B0 body q (is_given event) V (StatusOf n l) all), tt)
  status_row _ n l h = tt

  rows_met : (x : Spot) → Met B0 body q (is_given event) V all x → Every Row (instance_equations all x)
  rows_met x m = (
    m.go,
    every-append Row (instance_status all x.statement x.path x.layer) _ (status_row x.statement x.path x.layer m.status)
        (every_mapped Row (λ k. record { wire = End x.path x.layer k; formula = end_formula x.scope x.statement x.path x.layer k })
        (listed (instance_codes x.statement x.layer))
        (listed_every _ (instance_codes x.statement x.layer)
        (λ k u e. m.ends k ∙ ap (λ c. c && val B0 body q (is_given event) V (end_formula x.scope x.statement x.path x.layer k)) e))),
  )

module _ (p : Program) (q : State) (event : List Bool) (V : Valuation) (kernel : HasExitCodes p.body) (nl : NoInstantLoop p.body) (state : IsState q p.body)
    (width : length event ≡ given_count p) where
  abbrev outs : ℕ
  outs = outgoing_count p

  abbrev B0 : Scope
  B0 = tops.B0 p.inputs outs p.body

  abbrev all : List Spot
  all = program_spots p

  abbrev rows : List Equation
  rows = equations (given_count p) (range_with_len p.inputs outs) all

  abbrev M : Spot → Type 0
  M = Met B0 p.body q (is_given event) V all

  abbrev S : ℕ → Bool
  S = selected_of q

  abbrev v : Values
  v = seen_values (is_given event) V B0 Resumed

  -- ---- a solution is the walk

  shown : SolvesGraph (graph_of p) q event V → (o : ℕ) → p.inputs ≤ o → o < p.inputs + outs
      → V (Out o) ≡ (is_given event o || (graph_walk p q event V).signals o)
  shown s o i j =
      output_value p.inputs outs (given_count p) p.body q event V nl kernel state s.met s.others width o i j
      ∙ ap (λ b. is_given event o || b)
      (tops.body_emits p.inputs outs p.body q event V nl kernel state
      (top_started p.inputs outs (given_count p) p.body q event V nl kernel state s.met s.others)
      (λ live. top_resumed p.inputs outs (given_count p) p.body q event V nl kernel state s.met s.others live) o i j)

  forward : SolvesGraph (graph_of p) q event V → IsWalkOf p q event V
  forward s = record {
    started = top_started p.inputs outs (given_count p) p.body q event V nl kernel state s.met s.others;
    resumed = λ live. top_resumed p.inputs outs (given_count p) p.body q event V nl kernel state s.met s.others live;
    outputs =
        all-of-every (λ o. V (Out o) ≡ (is_given event o || (graph_walk p q event V).signals o)) (range_with_len p.inputs outs)
        (every_from (λ o. (p.inputs ≤ o) × (o < p.inputs + outs)) (λ o. V (Out o) ≡ (is_given event o || (graph_walk p q event V).signals o))
        (range_with_len p.inputs outs)
        (λ o h. shown s o h.0 h.1) (range_bounds p.inputs outs));
    others = λ w c.
        s.others w
        (false_from_ne_true (list_any (λ e. same_wire w e.wire) rows)
        (λ e. c (subst (λ ws. Contains ws w) (equation_wires_are (given_count p) (range_with_len p.inputs outs) all) (given_contained rows w e))));
  }

  -- ---- the walk is a solution

  started_met : IsWalkOf p q event V → EachStarted M B0 body_entry p.body 0 (Started 0)
  started_met h =
      meets_started B0 p.body q (is_given event) V all (body_layers p.body) p.body 0 0 v (is_initial q)
      (tops.body_stands p.inputs outs p.body V nl kernel) (inl refl)
      (record { each = λ s. tops.seen_free p.inputs outs p.body (is_given event) V (B0 s) s (tops.no_bound p.inputs outs p.body s) }) refl h.started

  resumed_met : IsWalkOf p q event V → has_code (resumed_codes p.body) ≡ true → EachResumed M B0 body_entry p.body 0
  resumed_met h live =
      meets_resumed B0 p.body q (is_given event) V all (body_layers p.body) S p.body 0 v (holds S p.body 0)
      (tops.body_stands p.inputs outs p.body V nl kernel) live
      (record { each = λ s. refl }) (state_finds q p.body) (state_reach q p.body state)
      (finds_self (λ m. state_holds_at q p.body m) S p.body 0 (state_finds q p.body)) (h.resumed live)

  instances_met : IsWalkOf p q event V → Every M all
  instances_met h =
      gathered (body_layers p.body) M (body_liveness p.body) B0 body_entry p.body 0 kernel (body_agrees p.body) (resumed_met h)
      (λ r i. ⊎_elim (λ e. subst (λ j. EachStarted M B0 body_entry p.body 0 (Started j)) (sym e) (started_met h)) (λ e. absurd e) i)

  output_met : IsWalkOf p q event V → (o : ℕ) → Contains (range_with_len p.inputs outs) o → p.inputs ≤ o → o < p.inputs + outs →
      Row B0 p.body q event V all (output_equation (given_count p) all o)
  output_met h o c i j =
      All-contains (λ s. V (Out s) ≡ (is_given event s || (graph_walk p q event V).signals s)) (range_with_len p.inputs outs) o h.outputs c
      ∙ sym (tops.output_means p.inputs outs p.body (given_count p) q event V width o
      ∙ ap (λ b. is_given event o || b) (tops.body_emits p.inputs outs p.body q event V nl kernel state h.started h.resumed o i j))

  outputs_met : IsWalkOf p q event V → Every (Row B0 p.body q event V all) (map (output_equation (given_count p) all) (range_with_len p.inputs outs))
  outputs_met h =
      every_mapped (Row B0 p.body q event V all) (output_equation (given_count p) all) (range_with_len p.inputs outs)
      (every_contained (λ o. Row B0 p.body q event V all (output_equation (given_count p) all o)) (range_with_len p.inputs outs)
      (λ o c.
      let b = every_at (λ s. (p.inputs ≤ s) × (s < p.inputs + outs)) (range_with_len p.inputs outs) (range_bounds p.inputs outs) o c in
      output_met h o c b.0 b.1))

  backward : IsWalkOf p q event V → SolvesGraph (graph_of p) q event V
  backward h = record {
    met =
        all-of-every (Row B0 p.body q event V all) rows
        (every-append (Row B0 p.body q event V all) (map (output_equation (given_count p) all) (range_with_len p.inputs outs))
        (flat_map (instance_equations all) all)
        (outputs_met h)
        (every_flat (Row B0 p.body q event V all) (instance_equations all) all
        (every_from M (λ x. Every (Row B0 p.body q event V all) (instance_equations all x)) all (rows_met B0 p.body q event V all) (instances_met h))));
    others = λ w e. h.others w (λ c. absurd (false≢true (sym e ∙ given w c)));
  }
    where
      given : (w : Wire) → Contains (program_wires p) w → list_any (λ e. same_wire w e.wire) rows ≡ true
      given w c =
          let d = equation_of rows w (subst (λ ws. Contains ws w) (sym (equation_wires_are (given_count p) (range_with_len p.inputs outs) all)) c) in
          subst (λ x. list_any (λ e. same_wire x e.wire) rows ≡ true) d.2 (given_at rows d.0 d.1)

pub equations_are_the_walk_lem : EquationsAreTheWalk
equations_are_the_walk_lem p q event V kernel nl state width =
    (forward p q event V kernel nl state width, backward p q event V kernel nl state width)
