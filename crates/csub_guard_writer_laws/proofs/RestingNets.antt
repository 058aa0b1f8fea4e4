-- In each instant of a netlist that follows a program's graph the regions whose heads do not run are at rest.
use Rattle.std.proofs.Common.{◌≡◌, Bool, List, [], ◌∷◌, length, Option, Some, None, sym, ap, ◌∙◌, subst, ⊎_elim, arith}
use Rattle.std.specs.Prelude.{All, Contains}
use Rattle.std.proofs.lemmas.Bool.{cases_lt}
use Rattle.std.proofs.lemmas.List.{get_or_past, length-map}
use Rattle.std.proofs.lemmas.List.Elements.{All-nil, All-cons, All-head, All-tail, Contains-get_or}
use Rattle.std.proofs.lemmas.Option.{none-some}
use Rattle.base_types.specs.Items.{EachEvent}
use Rattle.base_types.specs.declared.indices.WireId.{WireId}
use Rattle.est_kernel.specs.Plain.{Program, program_of, given_count}
use Rattle.grc_graph.specs.declared.graph.Graph.{Graph}
use Rattle.grc_graph.specs.GraphRuns.{IsGraphRun, program_wires}
use Rattle.grc_graph.specs.Layers.{Resumed}
use Rattle.grc_graph.specs.PlainGraphs.{instances_of, names_of, wire_at, wire_of}
use Rattle.grc_graph.specs.Readings.{Valuation}
use Rattle.grc_graph.specs.Walk.{Initial}
use Rattle.grc_graph.specs.Wires.{Wire, Go}
use Rattle.grc_solutions_laws.specs.Heads.{RegionRests, region_of}
use Rattle.grc_solutions_laws.proofs.Exports.{regions_rest_in_runs_lem}
use Rattle.csub_guard_blocks.specs.Resting.{AreAtRest}
use Rattle.grc_regions.specs.Regions.{AreRegions, IsRegion}
use Rattle.net_gen.specs.Generated.{Carries, EachInstant}
use Rattle.net_ir.specs.Netlists.{Netlist}
use Rattle.net_ir.specs.Runs.{net_values_run}
use Rattle.csub_guard_writer_laws.specs.Laws.{NetlistsRest}

-- a region that is told by a wire
told : (names : List Wire) (region : Option Wire) (w : WireId) → IsRegion names region (Some w) → region ≡ Some (wire_at names w.0)
told names None w h = absurd h
told names (Some head) w h = ap Some (sym h.1)

module _ (g : Graph) (p : Program) (net : Netlist) (regions : List (Option WireId)) (program : program_of g.program ≡ p)
    (wires : names_of g ≡ program_wires p) (are : AreRegions g regions) where
  -- the regions are at rest under a valuation
  abbrev Quiet : Valuation → Type 0
  Quiet V = (w : Wire) → Contains (program_wires p) w → RegionRests p.body V w

  once : (values : List Bool) (V : Valuation) → Carries g net values V → Quiet V → AreAtRest regions net values
  once values V carries rests k j x v w lk lj carried region headed off = ⊎_elim
      (λ low.
      let here = told (names_of g) (region_of (program_of g.program).body (wire_at (names_of g) v.0)) w
      (subst (IsRegion (names_of g) (region_of (program_of g.program).body (wire_at (names_of g) v.0))) region (are.are v.0 low)) in
      let among : Contains (names_of g) (wire_at (names_of g) v.0)
      = Contains-get_or (names_of g) v.0 (Go 0 Resumed) (omega (arith, low, length-map g.wires.items (wire_of (instances_of g)))) in
      carries k x v lk carried
      ∙ rests (wire_at (names_of g) v.0) (subst (λ names. Contains names (wire_at (names_of g) v.0)) wires among) (wire_at (names_of g) w.0)
      (subst (λ q. region_of q.body (wire_at (names_of g) v.0) ≡ Some (wire_at (names_of g) w.0)) program here)
      (sym (carries j x w lj headed) ∙ off))
      (λ past. absurd (none-some w (sym (get_or_past regions v.0 None (omega (arith, past, are.each))) ∙ region)))
      (cases_lt v.0 (length g.wires.items))

  each : (runs : List (List Bool)) (Vs : List Valuation) → EachInstant (Carries g net) runs Vs → All Quiet Vs → All (AreAtRest regions net) runs
  each [] [] h rests = All-nil (AreAtRest regions net)
  each [] (V ∷ Vs) h rests = absurd h
  each (values ∷ runs) [] h rests = absurd h
  each (values ∷ runs) (V ∷ Vs) h rests =
      All-cons (AreAtRest regions net) values runs (once values V h.0 (All-head Quiet V Vs rests)) (each runs Vs h.1 (All-tail Quiet V Vs rests))

pub netlists_rest_lem : NetlistsRest
netlists_rest_lem g p net regions codes no_loop built follows are items Vs wide run =
    let followed = follows items Vs (subst (λ q. EachEvent (λ event. length event ≡ given_count q) items) (sym built.program) wide)
    (subst (λ graph. IsGraphRun graph Initial items Vs) (sym built.graph) run) in
    each g p net regions built.program built.wires are (net_values_run net items) Vs followed.carries
    (regions_rest_in_runs_lem p items Vs codes no_loop run)
