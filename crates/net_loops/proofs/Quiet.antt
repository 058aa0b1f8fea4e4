-- A netlist whose check is quiet goes along with the program, from instant to instant.
use Rattle.std.proofs.Common.{◌≡◌, ℕ, suc, ◌+◌, ◌<◌, Bool, true, false, List, [], ◌∷◌, ◌++◌, length, map, Some, refl, sym, ap, ◌∙◌, subst}
use Rattle.std.proofs.Common.{arith, All, IsTrue, slice_index_or}
use Rattle.std.proofs.lemmas.Bool.{false≢true}
use Rattle.std.proofs.lemmas.List.{length-map, length-append, length-take}
use Rattle.base_types.specs.Items.{EachEvent, Item, Event, Reset}
use Rattle.est_kernel.specs.Plain.{Program, given_count, given_names, interface_of, outgoing_names}
use Rattle.est_kernel.specs.Reactions.{Answer, before, goes_on, run_from, run_of}
use Rattle.est_kernel.specs.Terms.{Term}
use Rattle.est_kernel.specs.WellFormed.{IsWellFormed}
use Rattle.grc_graph.specs.BuiltGraphs.{IsGraphOf}
use Rattle.grc_graph.specs.declared.formulas.Formula.{Formula}
use Rattle.grc_graph.specs.declared.graph.Graph.{Graph}
use Rattle.grc_graph.specs.GraphRuns.{PlainGraph, formula_value, graph_of, next_state}
use Rattle.grc_graph.specs.GraphRuns as graphs
use Rattle.grc_graph.specs.PlainGraphs.{plain_graph}
use Rattle.grc_ternary.specs.LeastSolutions.{IsLeast, true_wires}
use Rattle.grc_ternary.specs.RunLaws.{LeavesTerm, ProgramsRunByLeastSolutions, RunsByLeastSolutions}
use Rattle.grc_formulas.specs.Occasions.{state_of}
use Rattle.grc_ternary_run.specs.Instants.{Instant}
use Rattle.net_gen.specs.Generated.{shown_as}
use Rattle.net_gen.proofs.Exports.{leaves-false, next-many}
use Rattle.net_ir.specs.declared.netlist.Latch.{Latch}
use Rattle.net_ir.specs.Gates.{gate_values, value_in}
use Rattle.net_ir.specs.Netlists.{Netlist, net_count}
use Rattle.net_ir.specs.Runs.{Shown, initial_latches, net_run, net_values, next_latches, shown, values_from}
use Rattle.net_ir.proofs.Exports.{gate_values-append, length-gate_values, value_in-gate_values}
use Rattle.net_loops.specs.CheckedNets.{IsCheckedNet, IsQuietOver, shown_of}
use Rattle.net_loops.specs.LoopNets.{IsCheckOf, IsLoopNet, LoopNetsAreChecked}

-- ---- the check has the latches of the netlist

map-same : (f h : Latch → Bool) (ls : List Latch) → ((k : ℕ) (d : Latch) → k < length ls → f (slice_index_or ls k d) ≡ h (slice_index_or ls k d)) → map f ls
    ≡ map h ls
map-same f h [] same = refl
map-same f h (l ∷ ls) same =
    let here = same 0 l (omega arith) in
    let rest = map-same f h ls (λ k d low. same (suc k) d (omega arith)) in
    λ i. here i ∷ rest i

-- where the values before the gates are as many as there are inputs and latches
next-same : (net check : Netlist) (latches inputs : List Bool) → IsCheckOf check net → length (inputs ++ latches) ≡ length net.inputs + length net.latches
    → next_latches check (net_values check latches inputs) ≡ next_latches net (net_values net latches inputs)
next-same net check latches inputs c wide =
    let front = inputs ++ latches in
    let values = gate_values front net.gates in
    let all = gate_values front check.gates in
    let same : (n : ℕ) → n < net_count net → value_in all n ≡ value_in values n = λ n low.
    let many = length-gate_values front net.gates in
    ap (λ gs. value_in (gate_values front gs) n) c.more.1
    ∙ ap (λ vs. value_in vs n) (gate_values-append front net.gates c.more.0)
    ∙ value_in-gate_values values c.more.0 n (omega arith) in
    ap (λ ls. map (λ (l : Latch). value_in all l.from.0) ls) c.latches
    ∙ map-same (λ l. value_in all l.from.0) (λ l. value_in values l.from.0) net.latches (λ k d low. same _ (c.low k d low))

-- ---- from instant to instant

-- from these latches on the check is quiet over some items
abbrev QuietFrom : Netlist → List Bool → List Item → Type 0
QuietFrom check latches items = All (λ (s : Shown). s.outputs ≡ false ∷ []) (map (shown check) (values_from check latches items))

record Keeps (p : Program) (net : Netlist) (latches : List Bool) (r : Term) (items : List Item) : Type 0 where
  answers : List Answer
  is : run_from (interface_of p) p.body r items ≡ Some answers
  shows : map (shown net) (values_from net latches items) ≡ map shown_of answers

-- events with a value for each given signal
abbrev AreWide : Program → List Item → Type 0
AreWide p items = EachEvent (λ event. length event ≡ given_count p) items

module _ (g : Graph) (p : Program) (net check : Netlist) (formed : IsWellFormed p) (graph : IsGraphOf g p) (is : IsLoopNet g net check)
    (runs : RunsByLeastSolutions p) where
  many_latches : length net.latches ≡ 1 + length g.next.items
  many_latches =
      sym (length-map net.latches (λ (l : Latch). l.init)) ∙ ap length is.interface.latches
      ∙ (let m = length-map g.next.items (λ (f : Formula). false) in omega arith)

  many_inputs : length net.inputs ≡ given_count p
  many_inputs =
      ap length (is.interface.inputs ∙ ap given_names graph.program)
      ∙ (let few = formed.interface in omega (arith, length-take (given_count p) p.signals))

  abbrev one_instant : (boot : Bool) (bits event : List Bool) → length bits ≡ length g.next.items → (IsTrue boot → All (λ b. b ≡ false) bits)
      → length event ≡ given_count p → Instant g
  one_instant boot bits event many none wide = record {
    boot = boot;
    bits = bits;
    event = event;
    one_per_leaf = many;
    one_per_given = wide ∙ ap given_count (sym graph.program);
    unselected = none;
  }

  keeps-from : (items : List Item) (boot : Bool) (bits : List Bool) (r : Term) → length bits ≡ length g.next.items → (IsTrue boot → All (λ b. b ≡ false) bits)
      → LeavesTerm p r (state_of (plain_graph g).leaves boot bits) → AreWide p items → QuietFrom check (boot ∷ bits) items
      → Keeps p net (boot ∷ bits) r items
  keeps-from [] boot bits r many none match fits quiet = record { answers = []; is = refl; shows = refl }
  keeps-from (Event event ∷ items) boot bits r many none match fits quiet =
      let t = one_instant boot bits event many none fits.0 in
      let q = is.reacts t (quiet 0 (record { outputs = []; paused = false }) (omega arith)) in
      let T = q.statuses in
      let V = true_wires T in
      let s = state_of (plain_graph g).leaves boot bits in
      let least : IsLeast (graph_of p) s event T = subst (λ (h : PlainGraph). IsLeast h s event T) graph.graph q.least in
      let moved = runs.to_program.moves s r event T match fits.0 (least, q.known) in
      let x = moved.0 in
      let both = runs.to_program.agrees.steps s r event T x match fits.0 (least, q.known) moved.1 in
      let next = map (formula_value (plain_graph g) s event V) (plain_graph g).next in
      let match_next : LeavesTerm p x.residual (state_of (plain_graph g).leaves false next) =
      subst (λ (h : PlainGraph). LeavesTerm p x.residual (next_state h s event V)) (sym graph.graph) both.1 in
      let wide : length (event ++ (boot ∷ bits)) ≡ length net.inputs + length net.latches =
      (let e = fits.0 in let i = many_inputs in let l = many_latches in omega (arith, length-append event (boot ∷ bits))) in
      let next_net : next_latches net (net_values net (boot ∷ bits) event) ≡ false ∷ next = q.reacts.next in
      let next_check : next_latches check (net_values check (boot ∷ bits) event) ≡ false ∷ next = next-same net check (boot ∷ bits) event is.along wide
      ∙ next_net in
      let quiet_next : QuietFrom check (false ∷ next) items =
      subst (λ l. QuietFrom check l items) next_check (λ k d low. quiet (suc k) d (omega arith)) in
      let rest = keeps-from items false next x.residual (next-many g (formula_value (plain_graph g) s event V)) (λ e. absurd (false≢true e)) match_next fits.1
      quiet_next in
      let told : shown net (net_values net (boot ∷ bits) event) ≡ shown_of x.answer =
      q.reacts.shows ∙ ap shown_as (ap (λ (h : PlainGraph). graphs.shown h V) graph.graph ∙ sym both.0) in
      record {
        answers = x.answer ∷ rest.answers;
        is = ap (λ o. goes_on o (λ u. run_from (interface_of p) p.body u items)) moved.1 ∙ ap (before x.answer) rest.is;
        shows =
            (λ i. told i ∷ map (shown net) (values_from net (next_net i) items)) ∙ ap (λ l. shown_of x.answer ∷ l) rest.shows;
      }
  keeps-from (Reset ∷ items) boot bits r many none match fits quiet =
      let leaves = map (λ (x : Formula). false) g.next.items in
      let first : initial_latches check ≡ true ∷ leaves = ap (map (λ (l : Latch). l.init)) is.along.latches ∙ is.interface.latches in
      let rest = keeps-from items true leaves p.body (length-map g.next.items (λ (x : Formula). false)) (λ e. leaves-false g)
      runs.to_program.agrees.starts fits (subst (λ l. QuietFrom check l items) first quiet) in
      record {
        answers = rest.answers;
        is = rest.is;
        shows = subst (λ l. map (shown net) (values_from net l items) ≡ map shown_of rest.answers) (sym is.interface.latches) rest.shows;
      }

  -- the run from the start is that after a reset
  shown_answers : (items : List Item) → AreWide p items → IsQuietOver check items
      → (answers : List Answer) × (run_of p items ≡ Some answers) × (net_run net items ≡ map shown_of answers)
  shown_answers items fits quiet =
      let all = keeps-from (Reset ∷ items) true (map (λ (x : Formula). false) g.next.items) p.body (length-map g.next.items (λ (x : Formula). false))
      (λ e. leaves-false g) runs.to_program.agrees.starts fits quiet in
      (all.answers, all.is, all.shows)

  pub checked : IsCheckedNet p net check
  checked = record {
    name = is.interface.name ∙ ap (λ (q : Program). q.name) graph.program;
    inputs = is.interface.inputs ∙ ap given_names graph.program;
    outputs = is.interface.outputs ∙ ap outgoing_names graph.program;
    check_inputs = is.along.inputs ∙ is.interface.inputs ∙ ap given_names graph.program;
    one = is.along.one;
    runs = shown_answers;
  }

pub loop_nets_are_checked_lem : ProgramsRunByLeastSolutions → LoopNetsAreChecked
loop_nets_are_checked_lem law g p net check formed kernel no_loop graph is =
    checked g p net check formed graph is (law p formed kernel no_loop)
