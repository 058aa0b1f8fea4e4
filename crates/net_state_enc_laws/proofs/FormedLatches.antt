-- In each instant of a run the latches hold a well-formed selection.
use Rattle.std.proofs.Common.{◌≡◌, ℕ, Bool, true, false, List, [], ◌∷◌, length, map, refl, sym, ap, ◌∙◌, subst, All, IsTrue}
use Rattle.std.proofs.lemmas.Bool.{false≢true}
use Rattle.std.proofs.lemmas.List.{length-map}
use Rattle.std.proofs.lemmas.List.Elements.{All-nil, All-cons}
use Rattle.base_types.specs.Items.{Item, Event, Reset, EachEvent}
use Rattle.est_kernel.specs.Plain.{Program, program_of, given_count}
use Rattle.est_kernel.specs.StaticCodes.{NoInstantLoop}
use Rattle.est_kernel.specs.Terms.{Term}
use Rattle.grc_graph.specs.declared.formulas.Formula.{Formula}
use Rattle.grc_graph.specs.declared.graph.Graph.{Graph}
use Rattle.grc_graph.specs.BuiltGraphs.{IsGraphOf}
use Rattle.grc_graph.specs.GraphRuns.{PlainGraph, IsGraphRun, SolvesGraph, formula_value, graph_of, next_state}
use Rattle.grc_graph.specs.PlainGraphs.{formula_of, instances_of, names_of, plain_graph}
use Rattle.grc_graph.specs.Readings.{Valuation}
use Rattle.grc_graph.specs.Selected.{HasExitCodes, IsState}
use Rattle.grc_graph.specs.Selections.{well_formed}
use Rattle.grc_graph.specs.SelectionTrees.{body_leaves, selecting}
use Rattle.grc_graph.specs.Walk.{State, Initial, Selecting}
use Rattle.grc_graph.proofs.Exports.{states-are-formed}
use Rattle.grc_solutions_laws.specs.GraphWalks.{SelectsLeaves}
use Rattle.grc_solutions_laws.specs.Laws.{NextStateIsKept}
use Rattle.grc_formulas.specs.Occasions.{Occasion, state_of}
use Rattle.net_gen.specs.Generated.{HasInterfaceOf, FollowsInstants}
use Rattle.net_ir.specs.Netlists.{Netlist}
use Rattle.net_ir.specs.Runs.{net_values, initial_latches, next_latches}
use Rattle.net_state_enc.specs.Encodings.{SelectsWell}
use Rattle.net_state_enc.specs.Meeting.{LatchesMeet}
use Rattle.net_state_enc_laws.specs.Laws.{GraphsKeepStates, KeepsStates, KeptStatesAreFormed, LatchesAreFormed}
use Rattle.net_state_enc_laws.proofs.StateForms.{nothing-is-formed}

-- what the values of the latches keep from instant to instant: they stand for a state of leaves
record Kept (g : Graph) (p : Program) (boot : Bool) (bits : List Bool) : Type 0 where
  many : length bits ≡ length g.next.items
  unselected : IsTrue boot → All (λ b. b ≡ false) bits
  state : IsState (state_of (body_leaves p.body) boot bits) p.body
  leaves : SelectsLeaves (state_of (body_leaves p.body) boot bits) p.body

formed-kept : (g : Graph) (p : Program) (boot : Bool) (bits : List Bool) → Kept g p boot bits → SelectsWell p.body (boot ∷ bits)
formed-kept g p true bits k = nothing-is-formed (body_leaves p.body) bits p.body (k.unselected refl)
formed-kept g p false bits k = states-are-formed (selecting (body_leaves p.body) bits) p.body k.state

no-boot : {P : Type 0} → IsTrue false → P
no-boot h = absurd (false≢true h)

zeros-all : (fs : List Formula) → All (λ b. b ≡ false) (map (λ (f : Formula). false) fs)
zeros-all [] = All-nil (λ (b : Bool). b ≡ false)
zeros-all (f ∷ fs) = All-cons (λ (b : Bool). b ≡ false) false (map (λ (f : Formula). false) fs) refl (zeros-all fs)

-- the graph of a program keeps its states
pub graph-keeps : NextStateIsKept → GraphsKeepStates
graph-keeps kept g p codes no_loop graph = record {
  program = graph.program;
  next = λ q event V state leaves wide solves.
      let law = kept p q event V codes no_loop state leaves (subst (λ (h : PlainGraph). SolvesGraph h q event V) graph.graph solves) in
      let same : next_state (graph_of p) q event V ≡ next_state (plain_graph g) q event V = λ i. next_state (sym graph.graph i) q event V in (
        subst (λ s. IsState s p.body) same law.1,
        subst (λ s. SelectsLeaves s p.body) same law.2,
      );
}

module _ (g : Graph) (p : Program) (net : Netlist) (keeps : KeepsStates g p) (interface : HasInterfaceOf g net) (follows : FollowsInstants g net) where
  next-bits : State → List Bool → Valuation → List Bool
  next-bits q event V = map (formula_value (plain_graph g) q event V) (plain_graph g).next

  leaves-same : (plain_graph g).leaves ≡ body_leaves p.body
  leaves-same = ap (λ (q : Program). body_leaves q.body) keeps.program

  -- the next state is kept too
  kept-next : (boot : Bool) (bits event : List Bool) (V : Valuation) → Kept g p boot bits → length event ≡ given_count p
      → SolvesGraph (plain_graph g) (state_of (body_leaves p.body) boot bits) event V
      → Kept g p false (next-bits (state_of (body_leaves p.body) boot bits) event V)
  unfolding next-bits
  kept-next boot bits event V k wide solves =
      let q = state_of (body_leaves p.body) boot bits in
      let law = keeps.next q event V k.state k.leaves wide solves in
      let same : next_state (plain_graph g) q event V
      ≡ Selecting (selecting (body_leaves p.body) (map (formula_value (plain_graph g) q event V) (plain_graph g).next))
      = λ i. Selecting (selecting (leaves-same i) (map (formula_value (plain_graph g) q event V) (plain_graph g).next)) in
      record {
        many = length-map (plain_graph g).next (formula_value (plain_graph g) q event V)
            ∙ length-map g.next.items (formula_of (instances_of g) (names_of g));
        unselected = no-boot;
        state = subst (λ s. IsState s p.body) same law.0;
        leaves = subst (λ s. SelectsLeaves s p.body) same law.1;
      }

  start : Kept g p true (map (λ (f : Formula). false) g.next.items)
  start = record {
    many = length-map g.next.items (λ (f : Formula). false);
    unselected = λ h. zeros-all g.next.items;
    state = tt;
    leaves = tt;
  }

  formed-from : (items : List Item) (boot : Bool) (bits : List Bool) (Vs : List Valuation) → Kept g p boot bits
      → EachEvent (λ event. length event ≡ given_count p) items
      → IsGraphRun (plain_graph g) (state_of (body_leaves p.body) boot bits) items Vs
      → LatchesMeet (SelectsWell p.body) net (boot ∷ bits) items
  unfolding next-bits
  formed-from [] boot bits Vs k fit run = tt
  formed-from (Event event ∷ items) boot bits [] k fit run = absurd run
  formed-from (Event event ∷ items) boot bits (V ∷ Vs) k fit run =
      let q = state_of (body_leaves p.body) boot bits in
      let t : Occasion g = record {
        boot = boot;
        bits = bits;
        event = event;
        valuation = V;
        one_per_leaf = k.many;
        one_per_given = fit.0 ∙ ap given_count (sym keeps.program);
        unselected = k.unselected;
      } in
      let there : state_of (body_leaves p.body) boot bits ≡ state_of (plain_graph g).leaves boot bits
      = λ i. state_of (sym leaves-same i) boot bits in
      let reacts = follows t (subst (λ s. SolvesGraph (plain_graph g) s event V) there run.0) in
      let next : next_latches net (net_values net (boot ∷ bits) event) ≡ false ∷ map (formula_value (plain_graph g) q event V) (plain_graph g).next
      = reacts.next ∙ (λ i. false ∷ map (formula_value (plain_graph g) (sym there i) event V) (plain_graph g).next) in
      let after : next_state (plain_graph g) q event V
      ≡ state_of (body_leaves p.body) false (map (formula_value (plain_graph g) q event V) (plain_graph g).next)
      = λ i. Selecting (selecting (leaves-same i) (map (formula_value (plain_graph g) q event V) (plain_graph g).next)) in
      let next-values = map (formula_value (plain_graph g) q event V) (plain_graph g).next in
      let rest = formed-from items false next-values Vs (kept-next boot bits event V k fit.0 run.0) fit.1
      (subst (λ s. IsGraphRun (plain_graph g) s items Vs) after run.1) in
      (formed-kept g p boot bits k, subst (λ l. LatchesMeet (SelectsWell p.body) net l items) (sym next) rest)
  formed-from (Reset ∷ items) boot bits Vs k fit run =
      subst (λ l. LatchesMeet (SelectsWell p.body) net l items) (sym interface.latches)
      (formed-from items true (map (λ (f : Formula). false) g.next.items) Vs start fit run)

  formed-run : (items : List Item) (Vs : List Valuation) → EachEvent (λ event. length event ≡ given_count p) items
      → IsGraphRun (plain_graph g) Initial items Vs → LatchesMeet (SelectsWell p.body) net (initial_latches net) items
  formed-run items Vs fit run =
      subst (λ l. LatchesMeet (SelectsWell p.body) net l items) (sym interface.latches)
      (formed-from items true (map (λ (f : Formula). false) g.next.items) Vs start fit run)

pub kept-formed : KeptStatesAreFormed
kept-formed g p net keeps interface follows items Vs fit run = formed-run g p net keeps interface follows items Vs fit run

pub latches-formed : NextStateIsKept → LatchesAreFormed
latches-formed kept g p net codes no_loop graph interface follows items Vs fit run =
    formed-run g p net (graph-keeps kept g p codes no_loop graph) interface follows items Vs fit
    (subst (λ (h : PlainGraph). IsGraphRun h Initial items Vs) (sym graph.graph) run)
