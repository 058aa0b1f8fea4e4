-- The names of wires in a written text have the values of the wires.
use Rattle.std.proofs.Common.{◌≡◌, ℕ, zero, suc, ◌+◌, ◌-◌, ◌<◌, Bool, false, List, [], ◌∷◌, length, map, drop, get_or, Option, Some, None, refl, sym}
use Rattle.std.proofs.Common.{ap, ◌∙◌, subst, arith}
use Rattle.std.specs.Prelude.{nat_lt, option_map, option_and_then, Contains, if◌then◌else◌}
use Rattle.std.specs.List.{AllZip, range_with_len, cons_option, list_any}
use Rattle.std.proofs.lemmas.Bool.{le-ltb}
use Rattle.std.proofs.lemmas.List.{length-map, get_or-map, get_or-drop}
use Rattle.std.proofs.lemmas.List.FromFn.{get_or-map-range_with_len}
use Rattle.std.proofs.lemmas.Option.{slice_get-get_or}
use Rattle.base_types.specs.declared.indices.WireId.{WireId}
use Rattle.base_types.specs.Items.{Item, EachEvent}
use Rattle.est_kernel.specs.Plain.{Program, given_count, given_names}
use Rattle.blif_text.specs.Written.{Means, net_word, net_latch, gate_word}
use Rattle.blif_text.specs.Written as written
use Rattle.blif_text.specs.Runs.{circuit_machine}
use Rattle.csub_text.specs.Machine.{first_memory, call, memories, program_machine}
use Rattle.base_machines.proofs.Exports.{computed-only}
use Rattle.csub_text.specs.Written as meant
use Rattle.csub_text.specs.Written.{gate_name, gate_names, net_state, state_name}
use Rattle.vlog_text.specs.Written as module_meant
use Rattle.vlog_text.specs.Written.{name_at, net_name, net_register}
use Rattle.vlog_text.specs.Machine.{vlog_machine}
use Rattle.base_machines.specs.Machines.{Machine, IsRun}
use Rattle.std.specs.Prelude.{slice_get}
use Rattle.net_ir.specs.Runs.{net_values_run}
use Rattle.net_ir.proofs.Exports.{get_or-numbered, length-numbered}
use Rattle.grc_graph.specs.declared.graph.Graph.{Graph}
use Rattle.est_kernel.specs.StaticCodes.{NoInstantLoop}
use Rattle.grc_graph.specs.PlainGraphs.{names_of}
use Rattle.grc_graph.specs.PlainGraphs as graphs
use Rattle.grc_graph.specs.Readings.{Valuation}
use Rattle.grc_graph.specs.Walk.{Initial}
use Rattle.grc_graph.specs.WireOrders.{times}
use Rattle.grc_solutions.proofs.Exports.{stands_at, graph_runs_exist_lem}
use Rattle.grc_graph.specs.Selected.{HasExitCodes}
use Rattle.net_gen.specs.Generated.{HasInterfaceOf, Carries, EachInstant, FollowsRuns}
use Rattle.net_ir.specs.declared.netlist.Gate.{Gate}
use Rattle.net_ir.specs.Gates.{carried, value_in}
use Rattle.net_ir.specs.Netlists.{Netlist, first_gate, net_count, wire_at}
use Rattle.cec_compile.specs.Cycles.{IsAcyclic}
use Rattle.cec_compile.specs.WireGroups.{SharesWires, wire_groups}
use Rattle.cec_compile.specs.WireNames.{wire_word, wire_variable, TellsWires, WiresTold, NamesWires, one_per_leaf}
use Rattle.cec_compile.proofs.GraphsRead.{ReadsIn, next_count}
use Rattle.cec_compile.proofs.Keeping.{widths}
use Rattle.cec_compile.proofs.WalkRuns.{run_walks}

-- ---- the gate of a wire

-- a gate that carries this wire
record Carrier (gates : List Gate) (n : ℕ) : Type 0 where
  place : ℕ
  within : place < length gates
  is : (x : Gate) → (get_or gates place x).wire ≡ Some (record { 0 = n })

later : (g : Gate) (gates : List Gate) (n : ℕ) → Carrier gates n → Carrier (g ∷ gates) n
later g gates n c = record { place = suc c.place; within = omega (arith, c.within); is = c.is }

carrier : (gates : List Gate) (n : ℕ) → Contains (carried gates) n → Carrier gates n
carrier [] n c = absurd (omega (arith, c.1))
carrier (g ∷ gates) n c = by_wire (carrier gates n) g.wire refl c
  where
    at_place : (Contains (carried gates) n → Carrier gates n) → (w : WireId) → g.wire ≡ Some w → Contains (w.0 ∷ carried gates) n → Carrier (g ∷ gates) n
    at_place rest w e (zero, l, s) = record { place = 0; within = omega arith; is = λ x. e ∙ ap (λ k. Some (record { 0 = k })) s }
    at_place rest w e (suc k, l, s) = later g gates n (rest (k, omega (arith, l), s))

    by_wire : (Contains (carried gates) n → Carrier gates n) → (o : Option WireId) → g.wire ≡ o →
        Contains (cons_option (option_map (λ w. w.0) g.wire) (carried gates)) n
        → Carrier (g ∷ gates) n
    by_wire rest None e c = later g gates n (rest (subst (λ o. Contains (cons_option (option_map (λ w. w.0) o) (carried gates)) n) e c))
    by_wire rest (Some w) e c = at_place rest w e (subst (λ o. Contains (cons_option (option_map (λ w. w.0) o) (carried gates)) n) e c)

-- a wire of an order is carried
pub order_carried : (order : List WireId) (gates : List Gate) (n : ℕ) → carried gates ≡ map (λ v. v.0) order → times order n ≡ 1 → Contains (carried gates) n
order_carried order gates n e once =
    let at = stands_at order n once in
    subst (λ l. Contains l n) (sym e)
    (at.0, omega (arith, at.1, length-map order (λ (v : WireId). v.0)), get_or-map (λ (v : WireId). v.0) order at.0 (record { 0 = 0 }) n at.1 ∙ at.2)

-- some gate, where there is a place
any_in : (gates : List Gate) (k : ℕ) → k < length gates → Gate
any_in [] k l = absurd (omega (arith, l))
any_in (g ∷ gates) k l = g

-- ---- its name

word_of : (net : Netlist) (n : ℕ) → (c : Carrier net.gates n) → net_word net (first_gate net + c.place) ≡ wire_word n
word_of net n c =
    let i = first_gate net + c.place in
    let no_input : nat_lt i (length net.inputs) ≡ false = le-ltb i (length net.inputs) (omega arith) in
    let no_latch : nat_lt i (first_gate net) ≡ false = le-ltb i (first_gate net) (omega arith) in
    let back : i - first_gate net ≡ c.place = omega arith in
    let x = any_in net.gates c.place c.within in
    let there : wire_at net.gates c.place ≡ Some (record { 0 = n })
    = ap (λ o. option_and_then (λ h. h.wire) o) (slice_get-get_or net.gates c.place x c.within) ∙ c.is x in
    ap (λ b. if b then written.input_word i else (if nat_lt i (first_gate net) then written.latch_word (i - length net.inputs)
    else gate_word (i - first_gate net) (wire_at net.gates (i - first_gate net)))) no_input
    ∙ ap (λ b. if b then written.latch_word (i - length net.inputs) else gate_word (i - first_gate net) (wire_at net.gates (i - first_gate net)))
    no_latch
    ∙ ap (λ k. gate_word k (wire_at net.gates k)) back ∙ ap (gate_word c.place) there

-- the variable of its gate in a C text
gate_of : (net : Netlist) (n : ℕ) → (c : Carrier net.gates n) → get_or (gate_names net) c.place [] ≡ wire_variable n
gate_of net n c =
    let x = any_in net.gates c.place c.within in
    get_or-numbered (λ k (gate : Gate). gate_name k gate.wire) 0 net.gates c.place [] x c.within ∙ ap (gate_name (0 + c.place)) (c.is x)

-- its wire in a Verilog text
wire_of : (net : Netlist) (n : ℕ) → (c : Carrier net.gates n) → net_name net (first_gate net + c.place) ≡ wire_variable n
wire_of net n c =
    let i = first_gate net + c.place in
    let no_input : nat_lt i (length net.inputs) ≡ false = le-ltb i (length net.inputs) (omega arith) in
    let no_latch : nat_lt i (first_gate net) ≡ false = le-ltb i (first_gate net) (omega arith) in
    let back : i - first_gate net ≡ c.place = omega arith in
    let x = any_in net.gates c.place c.within in
    let there : wire_at net.gates c.place ≡ Some (record { 0 = n })
    = ap (λ o. option_and_then (λ h. h.wire) o) (slice_get-get_or net.gates c.place x c.within) ∙ c.is x in
    ap (λ b. if b then name_at (slice_get net.inputs i) else (if nat_lt i (first_gate net) then state_name (i - length net.inputs)
    else gate_name (i - first_gate net) (wire_at net.gates (i - first_gate net)))) no_input
    ∙ ap (λ b. if b then state_name (i - length net.inputs) else gate_name (i - first_gate net) (wire_at net.gates (i - first_gate net))) no_latch
    ∙ ap (λ k. gate_name k (wire_at net.gates k)) back ∙ ap (gate_name c.place) there

-- ---- instants

-- the values of all nets, by these names
abbrev by_name : (ℕ → List ℕ) → Netlist → (List ℕ → Bool) → List Bool
by_name name net v = map (λ n. v (name n)) (range_with_len 0 (net_count net))

module _ (shared : Bool) (g : Graph) (p : Program) (net : Netlist) (reads : ReadsIn shared g p)
    (carriers : (n : ℕ) → n < length (wire_groups shared p) → Contains (carried net.gates) n) where
  told-once : (name word : ℕ → List ℕ) → ((n : ℕ) (c : Carrier net.gates n) → name (first_gate net + c.place) ≡ word n) → (v : List ℕ → Bool) (V : Valuation)
      → Carries g net (by_name name net v) (reads.read V) → TellsWires word (wire_groups shared p) v V
  told-once name word named v V c n l = by_carrier (carrier net.gates n (carriers n l))
    where
      by_carrier : Carrier net.gates n → v (word n) ≡ list_any V (get_or (wire_groups shared p) n [])
      by_carrier k =
          let i = first_gate net + k.place in
          let inside : i < net_count net = omega (arith, k.within) in
          let value : value_in (by_name name net v) i ≡ v (name i) =
          get_or-map-range_with_len (λ m. v (name m)) 0 (net_count net) i i false inside (omega arith) in
          let x = any_in net.gates k.place k.within in
          let carried_value : value_in (by_name name net v) i ≡ reads.read V (graphs.wire_at (names_of g) n) =
          c k.place x (record { 0 = n }) k.within (k.is x) in
          sym (ap v (named n k)) ∙ sym value ∙ carried_value ∙ reads.told V n l

  told-all : (name word : ℕ → List ℕ) → ((n : ℕ) (c : Carrier net.gates n) → name (first_gate net + c.place) ≡ word n) → (valuations : List (List ℕ → Bool))
      → (Vs : List Valuation) → EachInstant (Carries g net) (map (by_name name net) valuations) (map reads.read Vs)
      → AllZip (TellsWires word (wire_groups shared p)) valuations Vs
  told-all name word named [] [] h = tt
  told-all name word named [] (V ∷ Vs) h = absurd h
  told-all name word named (v ∷ valuations) [] h = absurd h
  told-all name word named (v ∷ valuations) (V ∷ Vs) h = (told-once name word named v V h.0, told-all name word named valuations Vs h.1)

  -- behind a call
  told-call : (m : List ℕ → Bool) (values : List Bool) (V : Valuation) → map m (gate_names net) ≡ drop (first_gate net) values
      → Carries g net values (reads.read V) → TellsWires wire_variable (wire_groups shared p) m V
  told-call m values V e c n l = by_carrier (carrier net.gates n (carriers n l))
    where
      by_carrier : Carrier net.gates n → m (wire_variable n) ≡ list_any V (get_or (wire_groups shared p) n [])
      by_carrier k =
          let x = any_in net.gates k.place k.within in
          let many = length-numbered (λ j (gate : Gate). gate_name j gate.wire) 0 net.gates in
          let there : get_or (map m (gate_names net)) k.place false ≡ m (get_or (gate_names net) k.place []) =
          get_or-map m (gate_names net) k.place [] false (omega (arith, k.within, many)) in
          let value : get_or (map m (gate_names net)) k.place false ≡ value_in values (first_gate net + k.place) =
          ap (λ vs. get_or vs k.place false) e ∙ get_or-drop (first_gate net) values k.place false in
          let carried_value : value_in values (first_gate net + k.place) ≡ reads.read V (graphs.wire_at (names_of g) n) =
          c k.place x (record { 0 = n }) k.within (k.is x) in
          sym (ap m (gate_of net n k)) ∙ sym there ∙ value ∙ carried_value ∙ reads.told V n l

  told-calls : (ms : List (List ℕ → Bool)) (vs : List (List Bool)) (Vs : List Valuation)
      → map (λ m. map m (gate_names net)) ms ≡ map (drop (first_gate net)) vs → EachInstant (Carries g net) vs (map reads.read Vs)
      → AllZip (TellsWires wire_variable (wire_groups shared p)) ms Vs
  told-calls [] [] [] e h = tt
  told-calls [] [] (V ∷ Vs) e h = absurd h
  told-calls [] (v ∷ vs) Vs e h = cc
  told-calls (m ∷ ms) [] Vs e h = cc
  told-calls (m ∷ ms) (v ∷ vs) [] e h = absurd h
  told-calls (m ∷ ms) (v ∷ vs) (V ∷ Vs) e h =
      (told-call m v V (ap (λ l. get_or l 0 []) e) h.0, told-calls ms vs Vs (ap (drop 1) e) h.1)

  latch_count : HasInterfaceOf g net → length net.latches ≡ one_per_leaf p
  latch_count interface = omega (
    arith,
    sym (length-map net.latches (λ l. l.init))
        ∙ ap length interface.latches,
    length-map g.next.items (λ f. false),
    next_count g p reads.states.program,
  )

  pub states_stored : HasInterfaceOf g net → (text : List ℕ) → (means : meant.Means text net) → length means.program.states ≡ one_per_leaf p
  states_stored interface text means = ap length means.states ∙ length-numbered net_state 0 net.latches ∙ latch_count interface

  pub latches_stored : HasInterfaceOf g net → (text : List ℕ) → (means : Means text net) → length means.circuit.latches ≡ one_per_leaf p
  latches_stored interface text means = ap length means.latches ∙ length-numbered (net_latch net) 0 net.latches ∙ latch_count interface

  pub holds_wires : HasExitCodes p.body → NoInstantLoop p.body → IsAcyclic p → SharesWires p shared → FollowsRuns g net → (text : List ℕ)
      → (means : meant.Means text net) → given_count p ≡ length net.inputs → NamesWires (program_machine means.program) wire_variable p
  holds_wires kernel no_loop acyclic shares follows text means wide = record {
    shared = shared;
    shares = shares;
    wires = λ items fits ms called.
        let c = means.program in
        let events = widths p (given_count p) refl items fits in
        let one = graph_runs_exist_lem p acyclic.rank kernel acyclic.up Initial items in
        let run = one.0.1 in
        let followed =
        follows items (map reads.read one.0.0) (subst (λ q. EachEvent (λ event. length event ≡ given_count q) items) (sym reads.states.program) events)
        (reads.runs items one.0.0 events run) in
        let are = computed-only (first_memory c.states) (λ m inputs. call c inputs m) (λ m inputs behind. behind) (first_memory c.states) items ms called in
        subst (λ l. WiresTold wire_variable (wire_groups shared p) p items l) (sym are) (record {
          run = one.0.0;
          is_run = run_walks p kernel no_loop items Initial one.0.0 tt tt events run;
          told = told-calls (memories means.program items) (net_values_run net items) one.0.0
              (means.nets items (widths p (length net.inputs) wide items fits)) followed.carries;
        });
  }

  pub registers_stored : HasInterfaceOf g net → (text : List ℕ) → (means : module_meant.Means text net) → length means.design.registers ≡ one_per_leaf p
  registers_stored interface text means =
      ap length means.registers ∙ length-numbered (net_register net) 0 net.latches ∙ latch_count interface

  -- along the runs of a machine in which the nets have their values by these names
  named_wires : HasExitCodes p.body → NoInstantLoop p.body → IsAcyclic p → SharesWires p shared → FollowsRuns g net
      → (M : Machine (List ℕ → Bool)) (name word : ℕ → List ℕ)
      → ((n : ℕ) (c : Carrier net.gates n) → name (first_gate net + c.place) ≡ word n)
      → ((items : List Item) (valuations : List (List ℕ → Bool)) → IsRun M items valuations → map (by_name name net) valuations ≡ net_values_run net items)
      → NamesWires M word p
  named_wires kernel no_loop acyclic shares follows M name word named nets = record {
    shared = shared;
    shares = shares;
    wires = λ items fits valuations is_run.
        let events = widths p (given_count p) refl items fits in
        let one = graph_runs_exist_lem p acyclic.rank kernel acyclic.up Initial items in
        let run = one.0.1 in
        let followed =
        follows items (map reads.read one.0.0) (subst (λ q. EachEvent (λ event. length event ≡ given_count q) items) (sym reads.states.program) events)
        (reads.runs items one.0.0 events run) in
        record {
          run = one.0.0;
          is_run = run_walks p kernel no_loop items Initial one.0.0 tt tt events run;
          told = told-all name word named valuations one.0.0 (subst (λ values. EachInstant (Carries g net) values (map reads.read one.0.0))
              (sym (nets items valuations is_run)) followed.carries);
        };
  }

  pub names_wires : HasExitCodes p.body → NoInstantLoop p.body → IsAcyclic p → SharesWires p shared → FollowsRuns g net → (text : List ℕ)
      → (means : Means text net) → net.inputs ≡ given_names p → given_count p ≡ length net.inputs
      → NamesWires (circuit_machine means.circuit) wire_word p
  names_wires kernel no_loop acyclic shares follows text means inputs wide =
      named_wires kernel no_loop acyclic shares follows (circuit_machine means.circuit) (net_word net) wire_word (word_of net) means.nets

  pub module_wires : HasExitCodes p.body → NoInstantLoop p.body → IsAcyclic p → SharesWires p shared → FollowsRuns g net → (text : List ℕ)
      → (means : module_meant.Means text net) → NamesWires (vlog_machine means.design) wire_variable p
  module_wires kernel no_loop acyclic shares follows text means =
      named_wires kernel no_loop acyclic shares follows (vlog_machine means.design) (net_name net) wire_variable (wire_of net) means.nets
