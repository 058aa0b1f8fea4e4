-- How the wires of a compiled graph, own or shared, are read off those of the program's graph.
use Rattle.std.proofs.Common.{◌≡◌, ℕ, ◌<◌, Bool, true, false, List, [], ◌∷◌, length, map, get_or, Option, Some, None, refl, sym, ap, ap₂, ◌∙◌, subst}
use Rattle.std.proofs.Common.{arith}
use Rattle.std.specs.Prelude.{◌==◌, ◌&&◌, Vec, is_some, slice_index_or}
use Rattle.std.specs.Global.{Global}
use Rattle.std.specs.List.{list_any}
use Rattle.std.proofs.Math.Bool.{or-false}
use Rattle.std.proofs.lemmas.Bool.{cond-true, false≢true}
use Rattle.std.proofs.lemmas.List.{length-map, get_or-map}
use Rattle.std.proofs.lemmas.List.Folds.{list_any_at}
use Rattle.base_types.specs.Items.{Item, EachEvent}
use Rattle.est_kernel.specs.Plain.{Program, given_count, program_of}
use Rattle.est_kernel.specs.Reactions.{Answer, run_of}
use Rattle.est_kernel.specs.StaticCodes.{NoInstantLoop}
use Rattle.est_kernel.specs.Terms.{Term, Nothing}
use Rattle.est_kernel.specs.WellFormed as programs
use Rattle.grc_graph.specs.declared.graph.Graph.{Graph}
use Rattle.grc_graph.specs.declared.loops.LoopBodies.{LoopBodies}
use Rattle.grc_graph.specs.BuiltGraphs.{IsGraphOf}
use Rattle.grc_graph.specs.GraphRuns.{IsGraphRun, PlainGraph, SolvesGraph, graph_of, next_state, program_wires, shown}
use Rattle.grc_graph.specs.Layers.{Resumed, Started}
use Rattle.grc_graph.specs.LoopKeys.{body_sharing, lasting, loops_above, loops_at}
use Rattle.grc_graph.specs.PlainGraphs.{lasting_in, names_of, plain_graph, wire_at}
use Rattle.grc_graph.specs.Readings.{Valuation}
use Rattle.grc_graph.specs.Selected.{IsState}
use Rattle.grc_graph.specs.SelectionTrees.{body_leaves}
use Rattle.grc_graph.specs.Walk.{Initial}
use Rattle.grc_graph.specs.Wires.{Wire, Go, End, same_wire}
use Rattle.grc_graph.proofs.Exports.{same_wire-self}
use Rattle.grc_solutions_laws.specs.GraphWalks.{SelectsLeaves, shown_answer}
use Rattle.grc_solutions_laws.proofs.Exports.{next_state_is_kept_lem, program_kernel}
use Rattle.grc_ternary.proofs.Exports.{graph_runs_are_runs_lem}
use Rattle.grc_share.specs.SharedGraphs.{shared_graph}
use Rattle.grc_share.specs.SharedWires.{members, shared_wires}
use Rattle.grc_share_laws.specs.SharedReactions.{shared_values}
use Rattle.net_state_enc_laws.specs.Laws.{KeepsStates}
use Rattle.net_state_enc_laws.proofs.Exports.{graph-keeps}
use Rattle.cec_compile.specs.Cycles.{IsAcyclic}
use Rattle.cec_compile.specs.GraphsMade.{IsGraphIn, IsOwnOrShared, IsSharedOf}
use Rattle.cec_compile.specs.WireGroups.{is_shared, wire_groups}
use Rattle.cec_compile.proofs.SharedLaws.{shared_answers, shared_runs, shared_states}

-- The values of a graph's wires where those of the program's have these: along each run of the program's graph they are
-- a run, of which the answers are seen; and each wire is true where one is that it stands for.
pub record ReadsIn (shared : Bool) (g : Graph) (p : Program) : Type 0 where
  pub read : Valuation → Valuation
  pub runs : (items : List Item) (Vs : List Valuation) → EachEvent (λ event. length event ≡ given_count p) items
      → IsGraphRun (graph_of p) Initial items Vs → IsGraphRun (plain_graph g) Initial items (map read Vs)
  pub answers : (items : List Item) (Vs : List Valuation) → EachEvent (λ event. length event ≡ given_count p) items
      → IsGraphRun (graph_of p) Initial items Vs
      → (answers : List Answer) × (run_of p items ≡ Some answers) × (map shown_answer answers ≡ map (λ U. shown (plain_graph g) U) (map read Vs))
  pub told : (V : Valuation) (n : ℕ) → n < length (wire_groups shared p)
      → read V (wire_at (names_of g) n) ≡ list_any V (slice_index_or (wire_groups shared p) n [])
  pub states : KeepsStates g p

-- ---- wires

alone_told : (V : Valuation) (ws : List Wire) (n : ℕ) → n < length (map (λ (w : Wire). w ∷ []) ws)
    → V (wire_at ws n) ≡ list_any V (get_or (map (λ (w : Wire). w ∷ []) ws) n [])
alone_told V ws n l =
    let inside : n < length ws = omega (arith, l, length-map ws (λ (w : Wire). w ∷ [])) in
    sym (or-false (V (wire_at ws n))) ∙ ap (λ group. list_any V group) (sym (get_or-map (λ (w : Wire). w ∷ []) ws n (Go 0 Resumed) [] inside))

members_told : (p : Program) (V : Valuation) (n : ℕ) → n < length (map (members p) (shared_wires p))
    → shared_values p V (wire_at (shared_wires p) n) ≡ list_any V (get_or (map (members p) (shared_wires p)) n [])
members_told p V n l =
    let ws = shared_wires p in
    let u = wire_at ws n in
    let inside : n < length ws = omega (arith, l, length-map ws (members p)) in
    let there : list_any (same_wire u) ws ≡ true = list_any_at (same_wire u) ws n (Go 0 Resumed) inside (same_wire-self u) in
    cond-true (list_any (same_wire u) ws) (list_any V (members p u)) false there
    ∙ ap (λ group. list_any V group) (sym (get_or-map (members p) ws n (Go 0 Resumed) [] inside))

-- a formula of the next state for each leaf
pub next_count : (g : Graph) (p : Program) → program_of g.program ≡ p → length g.next.items ≡ length (body_leaves p.body)
next_count g p program = g.laid_out.leaves ∙ ap (λ (q : Program). length (body_leaves q.body)) program

-- ---- the program's own graph

map-same : (Vs : List Valuation) → map (λ V. V) Vs ≡ Vs
map-same [] = refl
map-same (V ∷ Vs) = ap (λ l. V ∷ l) (map-same Vs)

own_reads : (g : Graph) (p : Program) → programs.IsWellFormed p → programs.IsKernel p.body → NoInstantLoop p.body → IsAcyclic p → IsGraphOf g p
    → ReadsIn false g p
own_reads g p formed kernel no_loop acyclic is = record {
  read = λ V. V;
  runs = λ items Vs fits run.
      subst (λ Us. IsGraphRun (plain_graph g) Initial items Us) (sym (map-same Vs)) (subst (λ h. IsGraphRun h Initial items Vs) (sym is.graph) run);
  answers = λ items Vs fits run.
      let found = graph_runs_are_runs_lem p acyclic.rank formed kernel no_loop acyclic.up items fits Vs run in (
        found.0,
        found.1,
        found.2 ∙ ap (λ h. map (λ V. shown h V) Vs) (sym is.graph) ∙ ap (λ Us. map (λ U. shown (plain_graph g) U) Us) (sym (map-same Vs)),
      );
  told = λ V n l. ap (λ names. V (wire_at names n)) is.wires ∙ alone_told V (program_wires p) n l;
  states = graph-keeps next_state_is_kept_lem g p (program_kernel p formed kernel) no_loop is;
}

-- ---- the graph of its shared wires

shared_reads : (given g : Graph) (p : Program) → programs.IsWellFormed p → programs.IsKernel p.body → NoInstantLoop p.body → IsGraphOf given p
    → IsSharedOf g p → ReadsIn true g p
shared_reads given g p formed kernel no_loop built is = record {
  read = shared_values p;
  runs = λ items Vs fits run.
      subst (λ (h : PlainGraph). IsGraphRun h Initial items (map (shared_values p) Vs)) (sym is.graph) (shared_runs given p built items Vs no_loop fits run);
  answers = λ items Vs fits run.
      let found = shared_answers given p built is.ranked.rank items (map (shared_values p) Vs) formed no_loop is.ranked.up fits
      (shared_runs given p built items Vs no_loop fits run) in
      (found.0, found.1, found.2 ∙ ap (λ h. map (λ U. shown h U) (map (shared_values p) Vs)) (sym is.graph));
  told = λ V n l. ap (λ names. shared_values p V (wire_at names n)) is.wires ∙ members_told p V n l;
  states = record {
    program = is.program;
    next = λ q event U state leaves wide solves.
        let kept = shared_states given p built is.ranked.rank q event U (program_kernel p formed kernel) no_loop is.ranked.up state leaves wide
        (subst (λ (h : PlainGraph). SolvesGraph h q event U) is.graph solves) in
        let same = λ (h : PlainGraph). next_state h q event U in (
          subst (λ s. IsState s p.body) (sym (ap same is.graph)) kept.0,
          subst (λ s. SelectsLeaves s p.body) (sym (ap same is.graph)) kept.1,
        );
  };
}

pub graph_reads : (g : Graph) (p : Program) → programs.IsWellFormed p → programs.IsKernel p.body → NoInstantLoop p.body → IsAcyclic p → IsOwnOrShared g p
    → ReadsIn (is_shared g) g p
graph_reads g p formed kernel no_loop acyclic is = by (is_shared g) is.graph
  where
    by : (shared : Bool) → IsGraphIn shared g p → ReadsIn shared g p
    by false own = own_reads g p formed kernel no_loop acyclic own
    by true shared = shared_reads is.given g p formed kernel no_loop is.built shared

-- ---- a graph of shared wires keeps the loop bodies around statements

top_at : (t : Term) → loops_at 0 t 0 0 ≡ 0
top_at Nothing = refl
top_at _ = refl

top_above : (t : Term) → loops_above 0 0 t 0 0 ≡ 0
top_above Nothing = refl
top_above _ = refl

-- the body alone ends, resumed, with code 1
abbrev body_goes_on : Valuation
body_goes_on u = same_wire u (End 0 Resumed 1)

keeps_loops : (table : Option (Vec LoopBodies Global)) (body : Term) → lasting_in table body ≡ lasting (body_sharing body) → is_some table ≡ true
keeps_loops (Some loops) body same = refl
keeps_loops None body same =
    absurd (false≢true (ap (λ (f : Valuation → Valuation). f body_goes_on (End 0 (Started 0) 1)) same
    ∙ ap₂ (λ a b. a == b && true) (top_at body) (top_above body)))

pub shared_loops : (g : Graph) (p : Program) → program_of g.program ≡ p → plain_graph g ≡ shared_graph p → is_shared g ≡ true
shared_loops g p program graph =
    keeps_loops g.loops p.body
    (ap (λ (q : Program). lasting_in g.loops q.body) (sym program) ∙ ap (λ (h : PlainGraph). h.lasting) graph)
