-- The runs of a net's circuit: there is one over every list of inputs, and it shows what the net shows.
use Rattle.std.proofs.Common.{◌≡◌, ℕ, Bool, true, List, [], ◌∷◌, ◌++◌, length, map, get_or, take, drop, refl, sym, ap, ◌∙◌}
use Rattle.std.specs.List.{range_with_len}
use Rattle.std.proofs.lemmas.List.{map-append, length-append, length-map, map-id, drop_at, take-append-drop}
use Rattle.base_facts.proofs.Lists.{map-composed, map-equal, same-parts}
use Rattle.base_types.specs.Items.{Item}
use Rattle.net_ir.specs.declared.netlist.NetOut.{NetOut}
use Rattle.net_ir.specs.declared.netlist.Latch.{Latch}
use Rattle.net_ir.specs.declared.netlist.Gate.{Gate}
use Rattle.base_types.specs.Distinct.{all_differ}
use Rattle.base_types.specs.Names.{is_same_name}
use Rattle.net_ir.specs.Gates.{value_in}
use Rattle.net_ir.specs.Netlists.{Netlist, first_gate, net_count}
use Rattle.net_ir.specs.Runs.{Shown, net_values, next_latches, initial_latches, net_values_run, shown}
use Rattle.net_ir.proofs.Exports.{take-gate_values, length-numbered, map-numbered, numbered-map, looked_up, map-looked_up, gate_part, length-gate_part}
use Rattle.net_ir.proofs.Exports.{output_part}
use Rattle.net_writer.proofs.Exports.{HasNet, runs, runs-are, runs-tell}
use Rattle.blif_text.specs.Circuits.{CircuitLatch}
use Rattle.blif_text.specs.Runs.{IsInstant, circuit_latches, IsCircuitRun, driven_names}
use Rattle.blif_text.specs.Written.{output_word, net_word, paused_word, net_latch, output_words, net_circuit, input_word, latch_word, gate_word, written, Means}
use Rattle.blif_text.proofs.NetNames.{shown_words, input_words, latch_words, gate_words, net_words-numbers}
use Rattle.blif_text.proofs.NetDrivers.{driven-net, names-differ}
use Rattle.net_ir.specs.Writing.{IsWritable}
use Rattle.blif_text.proofs.NetSpelling.{reading-written}
use Rattle.blif_text.proofs.NetInstants.{Holds, Holds-from_instant, instant-from_Holds, value-word}

-- ---- names with given values

-- ---- the values of all driven names

abbrev all_values : Netlist → List Bool → List Bool → List Bool
all_values net latches inputs =
    let values = net_values net latches inputs in
    inputs ++ (latches ++ (inputs ++ gate_part net values ++ output_part net values ++ value_in values net.paused ∷ []))

-- as many values as names
length-all_values : (net : Netlist) (latches inputs : List Bool) → length latches ≡ length net.latches → length inputs ≡ length net.inputs
    → length (driven_names (net_circuit net)) ≡ length (all_values net latches inputs)
length-all_values net latches inputs l i =
    let wide : length (inputs ++ latches) ≡ first_gate net = length-append inputs latches ∙ rw (i, l) refl in
    let values = net_values net latches inputs in
    let a = length-numbered (λ j (name : List ℕ). input_word j) 0 net.inputs in
    let b = length-numbered (λ j (latch : Latch). latch_word j) 0 net.latches in
    let c = length-numbered (λ k (gate : Gate). gate_word k gate.wire) 0 net.gates in
    let d = length-map net.outputs (λ (o : NetOut). output_word net.inputs o.name) in
    let e = length-map net.outputs (λ (o : NetOut). value_in values o.net.0) in
    let g = length-gate_part net latches inputs wide in
    ap length (driven-net net) ∙ simp length-append (rw (a, b, c, d, e, g, i, l) refl)

-- a valuation of the driven names, part by part
map-all_names : (net : Netlist) (v : List ℕ → Bool)
    → map v (driven_names (net_circuit net)) ≡ map v net.inputs ++
    (map v (latch_words net) ++ (map v (input_words net) ++ map v (gate_words net) ++ map v (shown_words net) ++ v paused_word ∷ []))
map-all_names net v = ap (map v) (driven-net net) ∙ simp map-append

gates-from_nets : (net : Netlist) (latches inputs : List Bool) (v : List ℕ → Bool) → Holds net latches inputs v
    → map v (gate_words net) ≡ gate_part net (net_values net latches inputs)
gates-from_nets net latches inputs v holds =
    let before = input_words net ++ latch_words net in
    let len : length (map v before) ≡ first_gate net = length-map before v ∙ length-append (input_words net) (latch_words net)
    ∙ rw (length-numbered (λ j (name : List ℕ). input_word j) 0 net.inputs, length-numbered (λ j (latch : Latch). latch_word j) 0 net.latches) refl in
    sym (drop_at (map v before) (map v (gate_words net)) (first_gate net) len)
    ∙ ap (drop (first_gate net)) (sym (map-append v before (gate_words net)) ∙ holds.nets)

values-from_Holds : (net : Netlist) (latches inputs : List Bool) (v : List ℕ → Bool) → Holds net latches inputs v
    → map v (driven_names (net_circuit net)) ≡ all_values net latches inputs
values-from_Holds net latches inputs v holds =
    map-all_names net v ∙ rw (holds.names, holds.latches_kept, holds.inputs_kept, gates-from_nets net latches inputs v holds, holds.outputs, holds.paused) refl

Holds-from_values : (net : Netlist) → IsWritable net → (latches inputs : List Bool) (v : List ℕ → Bool) → length latches ≡ length net.latches
    → length inputs ≡ length net.inputs → map v (driven_names (net_circuit net)) ≡ all_values net latches inputs → Holds net latches inputs v
Holds-from_values net is latches inputs v l i same =
    let values = net_values net latches inputs in
    let before = input_words net ++ latch_words net in
    let wide : length (inputs ++ latches) ≡ first_gate net = length-append inputs latches ∙ rw (i, l) refl in
    let gates_len : length (map v (gate_words net)) ≡ length net.gates = length-map (gate_words net) v
    ∙ length-numbered (λ k (gate : Gate). gate_word k gate.wire) 0 net.gates in
    let part_len : length (gate_part net values) ≡ length net.gates = length-gate_part net latches inputs wide in
    let inputs_len : length (map v (input_words net)) ≡ length inputs = length-map (input_words net) v
    ∙ length-numbered (λ j (name : List ℕ). input_word j) 0 net.inputs ∙ sym i in
    let outputs_len : length (map v (shown_words net)) ≡ length (output_part net values) = length-map (shown_words net) v
    ∙ length-map net.outputs (λ (o : NetOut). output_word net.inputs o.name) ∙ sym (length-map net.outputs (λ (o : NetOut). value_in values o.net.0)) in
    let latches_len : length (map v (latch_words net)) ≡ length latches = length-map (latch_words net) v
    ∙ length-numbered (λ j (latch : Latch). latch_word j) 0 net.latches ∙ sym l in
    let two_len : length (map v (input_words net) ++ map v (gate_words net)) ≡ length (inputs ++ gate_part net values) = length-append
    (map v (input_words net)) (map v (gate_words net)) ∙ rw (inputs_len, gates_len, sym part_len) (sym (length-append inputs (gate_part net values))) in
    let three_len : length (map v (input_words net) ++ map v (gate_words net) ++ map v (shown_words net)) ≡ length
    (inputs ++ gate_part net values ++ output_part net values) = length-append (map v (input_words net) ++ map v (gate_words net))
    (map v (shown_words net)) ∙ rw (two_len, outputs_len) (sym (length-append (inputs ++ gate_part net values) (output_part net values))) in
    let a = same-parts (map v net.inputs) _ inputs _ (length-map net.inputs v ∙ sym i) (sym (map-all_names net v) ∙ same) in
    let b = same-parts (map v (latch_words net)) _ latches _ latches_len a.1 in
    let c = same-parts (map v (input_words net) ++ map v (gate_words net) ++ map v (shown_words net)) (v paused_word ∷ [])
    (inputs ++ gate_part net values ++ output_part net values) (value_in values net.paused ∷ []) three_len b.1 in
    let d = same-parts (map v (input_words net) ++ map v (gate_words net)) (map v (shown_words net)) (inputs ++ gate_part net values) (output_part net values)
    two_len c.0 in
    let e = same-parts (map v (input_words net)) (map v (gate_words net)) inputs (gate_part net values) inputs_len d.0 in
    let first : take (first_gate net) values ≡ inputs ++ latches = ap (λ n. take n values) (sym wide) ∙ take-gate_values (inputs ++ latches) net.gates in
    let whole : (inputs ++ latches) ++ gate_part net values ≡ values = ap (λ x. x ++ gate_part net values) (sym first)
    ∙ take-append-drop (first_gate net) values in
    record {
      names = a.0;
      inputs_kept = e.0;
      latches_kept = b.0;
      nets = map-append v before (gate_words net) ∙ ap (λ x. x ++ map v (gate_words net)) (map-append v (input_words net) (latch_words net))
          ∙ rw (e.0, b.0, e.1) whole;
      outputs = d.1;
      paused = cc c.1;
    }

-- ---- one instant

-- over all latch values and inputs there is an instant
instant_exists : (net : Netlist) → IsWritable net → (latches inputs : List Bool) → length latches ≡ length net.latches → length inputs ≡ length net.inputs
    → (v : List ℕ → Bool) × IsInstant (net_circuit net) latches inputs v
instant_exists net is latches inputs l i =
    let names = driven_names (net_circuit net) in
    let values = all_values net latches inputs in
    let differ : all_differ is_same_name names ≡ true = ap (all_differ is_same_name) (driven-net net) ∙ names-differ net is in
    let given = map-looked_up names values differ (length-all_values net latches inputs l i) in
    let holds = Holds-from_values net is latches inputs (looked_up names values) l i given in
    (looked_up names values, instant-from_Holds net is latches inputs (looked_up names values) l i holds)

-- what the latches read
next_latches-circuit : (net : Netlist) → IsWritable net → (latches inputs : List Bool) (v : List ℕ → Bool) → Holds net latches inputs v
    → map (λ (x : CircuitLatch). v x.source) (net_circuit net).latches ≡ next_latches net (net_values net latches inputs)
next_latches-circuit net is latches inputs v holds =
    map-numbered (λ (x : CircuitLatch). v x.source) (net_latch net) 0 net.latches
    ∙ numbered-map (λ (x : Latch). v (net_word net x.from.0)) 0 net.latches
    ∙ map-equal (λ (x : Latch). v (net_word net x.from.0)) (λ x. value_in (net_values net latches inputs) x.from.0) net.latches
    (λ k d h. let n = (get_or net.latches k d).from.0 in sym (value-word net v n (is.is_net.latches_in_range k d h)) ∙ ap (λ w. value_in w n) holds.nets)

-- what is shown
shown-circuit : (net : Netlist) (latches inputs : List Bool) (v : List ℕ → Bool) → Holds net latches inputs v
    → map v (output_words net) ≡ (shown net (net_values net latches inputs)).outputs ++ (shown net (net_values net latches inputs)).paused ∷ []
shown-circuit net latches inputs v holds =
    map-append v (shown_words net) (paused_word ∷ []) ∙ rw (holds.outputs, holds.paused) refl

-- ---- runs

initial-circuit : (net : Netlist) → circuit_latches (net_circuit net) ≡ initial_latches net
initial-circuit net =
    map-numbered (λ (x : CircuitLatch). x.init) (net_latch net) 0 net.latches ∙ numbered-map (λ (x : Latch). x.init) 0 net.latches

has-net : (net : Netlist) → IsWritable net → HasNet net (circuit_latches (net_circuit net)) (IsInstant (net_circuit net))
    (λ kept inputs v. map (λ (x : CircuitLatch). v x.source) (net_circuit net).latches) (Holds net)
has-net net is = record {
  begins = initial-circuit net;
  exists = instant_exists net is;
  holds = Holds-from_instant net is;
  kept = next_latches-circuit net is;
}

-- ---- the written text means the net

pub Means-written : (net : Netlist) → IsWritable net → Means (written net) net
Means-written net is =
    let k = has-net net is in
    let start = circuit_latches (net_circuit net) in
    let names = driven_names (net_circuit net) in
    let values_told = λ (items : List Item) (vs : List (List ℕ → Bool)) (run : IsCircuitRun (net_circuit net) items vs).
    runs-are k (λ v. map v names) (all_values net) (values-from_Holds net) start items vs run in
    let all_shown = λ (values : List Bool). (shown net values).outputs ++ (shown net values).paused ∷ [] in
    let named = λ (latches inputs : List Bool) (v : List ℕ → Bool) (holds : Holds net latches inputs v). map-composed v (net_word net)
    (range_with_len 0 (net_count net)) ∙ ap (map v) (sym (net_words-numbers net)) ∙ holds.nets in
    record {
      circuit = net_circuit net;
      reads = reading-written net is;
      name = refl;
      inputs = refl;
      outputs = refl;
      latches = refl;
      runs = λ items widths. runs k items widths;
      one_run = λ items us vs u v. values_told items us u ∙ sym (values_told items vs v);
      shows = λ items vs run. runs-tell k (λ v. map v (output_words net)) all_shown (shown-circuit net) items vs run
          ∙ map-composed (λ (s : Shown). s.outputs ++ s.paused ∷ []) (shown net) (net_values_run net items);
      nets = λ items vs run. runs-tell k (λ v. map (λ n. v (net_word net n)) (range_with_len 0 (net_count net))) (λ values. values) named items vs run
          ∙ map-id (net_values_run net items);
    }
