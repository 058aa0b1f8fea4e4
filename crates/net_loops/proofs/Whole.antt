-- What a netlist around a drawn circuit shows and keeps.
use Rattle.std.proofs.Common.{◌≡◌, ℕ, zero, suc, ◌+◌, ◌<◌, ◌≤◌, Bool, true, false, not, List, [], ◌∷◌, ◌++◌, length, map, slice_index_or, Option, Some, None}
use Rattle.std.proofs.Common.{refl, sym, ap, ◌∙◌, subst}
use Rattle.std.proofs.Common.{arith, All}
use Rattle.std.proofs.lemmas.Bool.{not-false}
use Rattle.std.proofs.lemmas.List.{get_or-map, length-append, length-map, length-take-le}
use Rattle.base_types.specs.declared.indices.NetId.{NetId}
use Rattle.base_types.specs.declared.indices.WireId.{WireId}
use Rattle.est_kernel.specs.Plain.{given_count, interface_count, program_of}
use Rattle.grc_graph.specs.declared.formulas.Formula.{Formula}
use Rattle.grc_graph.specs.declared.graph.Graph.{Graph}
use Rattle.grc_graph.specs.GraphRuns.{formula_value}
use Rattle.grc_graph.specs.Formulas as plain
use Rattle.grc_graph.specs.PlainGraphs.{formula_of, instances_of, names_of, plain_graph}
use Rattle.grc_ternary.specs.LeastSolutions.{true_wires}
use Rattle.grc_formulas.specs.declared.table.Source.{Source}
use Rattle.grc_formulas.specs.declared.table.Words.{Words}
use Rattle.grc_formulas.specs.Occasions.{state_of}
use Rattle.net_gen.specs.Assembled.{boot_latch, leaf_latch}
use Rattle.net_gen.specs.Generated.{HasInterfaceOf, ReactsAs}
use Rattle.net_ir.specs.declared.netlist.Gate.{Gate}
use Rattle.net_ir.specs.declared.netlist.Op.{Op}
use Rattle.net_ir.specs.declared.netlist.Latch.{Latch}
use Rattle.net_ir.specs.declared.netlist.NetOut.{NetOut}
use Rattle.net_ir.specs.Gates.{carried, gate_values, value_in}
use Rattle.net_ir.specs.Netlists.{Netlist, net_count}
use Rattle.net_ir.specs.Runs.{net_values}
use Rattle.net_cycles.specs.Bases.{source_net}
use Rattle.grc_ternary_gates.specs.declared.gates.System.{System}
use Rattle.grc_ternary_run.specs.Instants.{Instant}
use Rattle.net_unroll.specs.declared.growing.Growing.{Growing}
use Rattle.net_unroll.specs.Copies.{net_at, next_number, values_at, values_of}
use Rattle.net_unroll.specs.Rails.{IsAlarm}
use Rattle.net_unroll.specs.Schedules.{nothing_known, statuses_along}
use Rattle.net_cycles.specs.declared.drawing.Drawn.{Drawn}
use Rattle.net_cycles.specs.Drawings.{IsDrawn, IsWhollyKnown, SaysLeast, occasion_of}
use Rattle.net_cycles.specs.Packings.{IsAroundDrawn, IsCheckAround, WatchesAll}
use Rattle.net_loops.specs.LoopNets.{CycleNetsAreLoopNets, IsCheckOf, IsLoopNet, IsQuiet, ReactsByLeast}

-- no gate carries a wire
step-silent : (o : Op) (w : Option WireId) (gates : List Gate) (x : Gate) (v : WireId)
    → ((k : ℕ) → carried gates ≡ [] → k < length gates → (slice_index_or gates k x).wire ≡ Some v → ⊥)
    → (k : ℕ) → carried (record { op = o; wire = w } ∷ gates) ≡ [] → k < suc (length gates)
    → (slice_index_or (record { op = o; wire = w } ∷ gates) k x).wire ≡ Some v → ⊥
step-silent o (Some u) gates x v rest k none low is = cc
step-silent o None gates x v rest zero none low is = cc
step-silent o None gates x v rest (suc k) none low is = rest k none (omega arith) is

none-carried : (gates : List Gate) (k : ℕ) (x : Gate) (v : WireId) → carried gates ≡ [] → k < length gates → (slice_index_or gates k x).wire ≡ Some v → ⊥
none-carried [] k x v none low is = absurd (omega arith)
none-carried (g ∷ gates) k x v none low is = step-silent g.op g.wire gates x v (λ j n l e. none-carried gates j x v n l e) k none (omega arith) is

-- ---- lists

false-map : (ns : List NetId) (fs : List Formula) → length ns ≡ length fs → map (λ (l : Latch). l.init) (map leaf_latch ns) ≡ map (λ (f : Formula). false) fs
false-map [] [] e = refl
false-map [] (f ∷ fs) e = absurd (omega arith)
false-map (n ∷ ns) [] e = absurd (omega arith)
false-map (n ∷ ns) (f ∷ fs) e = ap (λ l. false ∷ l) (false-map ns fs (omega arith))

map-net : (f : NetId → Bool) (outs : List NetOut) → map (λ (o : NetOut). f o.net) outs ≡ map f (map (λ (o : NetOut). o.net) outs)
map-net f [] = refl
map-net f (o ∷ outs) = ap (λ l. f o.net ∷ l) (map-net f outs)

map-twice : (f : NetId → Bool) (h : Source → NetId) (ss : List Source) → map f (map h ss) ≡ map (λ s. f (h s)) ss
map-twice f h [] = refl
map-twice f h (s ∷ ss) = ap (λ l. f (h s) ∷ l) (map-twice f h ss)

next-map : (f : NetId → Bool) (F : Formula → plain.Formula) (fv : plain.Formula → Bool) (ns : List NetId) (fs : List Formula) → length ns ≡ length fs
    → ((k : ℕ) (d : Formula) → k < length fs → f (net_at ns k) ≡ fv (F (slice_index_or fs k d)))
    → map (λ (l : Latch). f l.from) (map leaf_latch ns) ≡ map fv (map F fs)
next-map f F fv [] [] e same = refl
next-map f F fv [] (d ∷ fs) e same = absurd (omega arith)
next-map f F fv (n ∷ ns) [] e same = absurd (omega arith)
next-map f F fv (n ∷ ns) (d ∷ fs) e same =
    let here = same 0 d (omega arith) in
    let rest = next-map f F fv ns fs (omega arith) (λ k x low. same (suc k) x (omega arith)) in
    λ i. here i ∷ rest i

module _ (g : Graph) (w : Words) (y : System) (schedule watched : List ℕ) (d : Drawn) (after : Growing) (alarm : NetId) (net check : Netlist)
    (drawn : IsDrawn g w y schedule d) (a : IsAlarm d.gates after y.gates.items d.sources.items schedule watched alarm.0)
    (all : WatchesAll (length y.gates.items) watched) (few : interface_count (program_of g.program) ≤ length (program_of g.program).signals)
    (r : IsAroundDrawn g w d net) (c : IsCheckAround net check after alarm) where
  inputs-many : length net.inputs ≡ given_count (program_of g.program)
  inputs-many = ap length r.inputs ∙ length-take-le (given_count (program_of g.program)) (program_of g.program).signals (omega arith)

  latches-many : length net.latches ≡ 1 + length g.next.items
  latches-many = ap length r.latches ∙ (let n = length-map d.next.items leaf_latch in let m = drawn.many in omega arith)

  count-is : net_count net ≡ next_number d.gates
  count-is =
      let i = inputs-many in
      let l = latches-many in
      let f = drawn.base.first in
      let e = ap length r.gates in
      omega arith

  interface : HasInterfaceOf g net
  interface = record {
    name = r.name;
    inputs = r.inputs;
    outputs = r.outputs;
    latches = ap (map (λ (l : Latch). l.init)) r.latches ∙ ap (λ l. true ∷ l) (false-map d.next.items g.next.items drawn.many);
  }

  latch-low : (k : ℕ) (l : Latch) → k < length (boot_latch d.base.no ∷ map leaf_latch d.next.items)
      → (slice_index_or (boot_latch d.base.no ∷ map leaf_latch d.next.items) k l).from.0 < next_number d.gates
  latch-low zero l low = drawn.base.no.low
  latch-low (suc k) l low =
      let n = length-map d.next.items leaf_latch in
      let at = get_or-map leaf_latch d.next.items k l.from l (omega arith) in
      subst (λ (x : Latch). x.from.0 < next_number d.gates) (sym at) (drawn.low k l.from (omega arith))

  along : IsCheckOf check net
  along = record {
    inputs = c.inputs;
    latches = c.latches;
    one = sym (length-map check.outputs (λ (o : NetOut). o.net)) ∙ ap length c.alarm_out;
    more = (a.grows.more.0, c.gates ∙ a.grows.more.1 ∙ ap (λ l. l ++ a.grows.more.0) (sym r.gates));
    low = subst (λ n. All (λ (l : Latch). l.from.0 < n) net.latches) (sym count-is)
        (subst (All (λ (l : Latch). l.from.0 < next_number d.gates)) (sym r.latches) latch-low);
  }

  reacts : (t : Instant g) → IsQuiet check (t.boot ∷ t.bits) t.event → ReactsByLeast g net t
  reacts t quiet = record { statuses = says.statuses; least = says.least; known = says.known; reacts = done }
    where
      front : List Bool
      front = t.event ++ (t.boot ∷ t.bits)

      wide : length front ≡ d.gates.first
      wide =
          let e = t.one_per_given in
          let l = t.one_per_leaf in
          let f = drawn.base.first in
          omega (arith, length-append t.event (t.boot ∷ t.bits))

      no-alarm : value_in (values_of after front) alarm.0 ≡ false
      no-alarm =
          let f = λ (n : NetId). value_in (gate_values front check.gates) n.0 in
          let one = sym (map-net f check.outputs ∙ ap (map f) c.alarm_out) ∙ quiet in
          let same : f alarm ≡ false = cc in
          ap (λ gs. value_in (gate_values front gs) alarm.0) (sym c.gates) ∙ same

      known : IsWhollyKnown g y d.gates d.sources.items schedule t
      known = all (statuses_along y.gates.items (values_at d.gates d.sources.items front) nothing_known schedule)
          (not-false _ (sym (a.says front wide) ∙ no-alarm))

      says : SaysLeast g w d.base d.gates d.copies.items d.rows.items d.next.items t
      says = drawn.says t known

      vals : List Bool
      vals = values_of d.gates front

      over : ReactsAs g net (occasion_of g t (true_wires says.statuses)) vals
      over = record {
        carries = λ k x v low e.
            absurd (none-carried d.gates.list.items k x v drawn.base.silent (let m = ap length r.gates in omega arith)
            (ap (λ gs. (slice_index_or gs k x).wire) (sym r.gates) ∙ e));
        shows = λ i. record {
          outputs = (map-net (λ n. value_in vals n.0) net.outputs ∙ ap (map (λ (n : NetId). value_in vals n.0)) r.output_nets
              ∙ map-twice (λ n. value_in vals n.0) (source_net d.base d.copies.items d.rows.items) w.outputs.items ∙ says.outputs) i;
          paused = (ap (value_in vals) r.paused ∙ says.paused) i;
        };
        next = ap (map (λ (l : Latch). value_in vals l.from.0)) r.latches
            ∙ ap (λ b. b ∷ map (λ (l : Latch). value_in vals l.from.0) (map leaf_latch d.next.items)) (drawn.base.no.never front wide)
            ∙ ap (λ l. false ∷ l)
            (next-map (λ n. value_in vals n.0) (formula_of (instances_of g) (names_of g))
            (formula_value (plain_graph g) (state_of (plain_graph g).leaves t.boot t.bits) t.event (true_wires says.statuses)) d.next.items g.next.items
            drawn.many
            says.next_is);
      }

      done : ReactsAs g net (occasion_of g t (true_wires says.statuses)) (net_values net (t.boot ∷ t.bits) t.event)
      done = subst (λ gs. ReactsAs g net (occasion_of g t (true_wires says.statuses)) (gate_values front gs)) (sym r.gates) over

  pub whole : IsLoopNet g net check
  whole = record { interface = interface; along = along; reacts = reacts }

pub cycle_nets_are_loop_nets_lem : CycleNetsAreLoopNets
cycle_nets_are_loop_nets_lem g w y schedule net check few a =
    whole g w y schedule a.checked.watched a.drawn a.checked.after a.checked.alarm net check a.is_drawn a.checked.is_alarm a.checked.watches few a.net_around
    a.checked.check_around
