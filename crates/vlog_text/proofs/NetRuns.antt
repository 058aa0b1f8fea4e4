-- Inner: the runs of a net's module: there is one over every list of inputs, and it shows what the net shows.
use Rattle.std.proofs.Common.{◌≡◌, ℕ, Bool, true, not, ◌==◌, List, [], ◌∷◌, ◌++◌, length, map, get_or, take, drop, refl, sym, ap, ◌∙◌}
use Rattle.std.specs.List.{range_with_len}
use Rattle.std.proofs.lemmas.List.{map-append, length-append, length-map, map-id, drop_at, take-append-drop}
use Rattle.std.proofs.lemmas.List.FromFn.{fill_by_all}
use Rattle.base_facts.proofs.Lists.{map-composed, map-equal, same-parts}
use Rattle.base_types.specs.Distinct.{all_differ}
use Rattle.base_types.specs.Items.{Item}
use Rattle.base_types.specs.Names.{is_same_name}
use Rattle.base_machines.specs.Machines.{IsRun}
use Rattle.net_ir.specs.declared.netlist.Gate.{Gate}
use Rattle.net_ir.specs.declared.netlist.Latch.{Latch}
use Rattle.net_ir.specs.declared.netlist.NetOut.{NetOut}
use Rattle.net_ir.specs.Gates.{value_in}
use Rattle.net_ir.specs.Netlists.{Netlist, first_gate, net_count}
use Rattle.net_ir.specs.Runs.{Shown, net_values, next_latches, initial_latches, net_values_run, shown}
use Rattle.net_ir.specs.Writing.{IsWritable}
use Rattle.net_ir.proofs.Exports.{length-numbered, map-numbered, numbered-map, take-gate_values, looked_up, map-looked_up, gate_part, length-gate_part}
use Rattle.net_ir.proofs.Exports.{output_part}
use Rattle.net_writer.proofs.Exports.{HasNet, runs, runs-are, runs-tell}
use Rattle.net_expressions.specs.NetNames.{state_name, gate_name, gate_names}
use Rattle.net_expressions.proofs.Exports.{state_names, marks-states, marks-gates, in-front, all-both, differ-states}
use Rattle.vlog_text.specs.Trees.{Register, Assign}
use Rattle.vlog_text.specs.Names.{paused_name}
use Rattle.vlog_text.specs.Machine.{IsInstant, vlog_machine, initial_registers, driven_names}
use Rattle.vlog_text.specs.Written.{output_name, net_name, net_outputs, net_register, net_assigns, written, Means}
use Rattle.vlog_text.proofs.NetInstants.{first_names, net_names, length-names, net_name-at, Holds, value-name, Holds-from_instant, instant-from_Holds}
use Rattle.vlog_text.proofs.NetModules.{net_module}
use Rattle.vlog_text.proofs.NetNames.{input_words, output_words, marks-inputs, marks-shown, differ-inputs, differ-targets}
use Rattle.vlog_text.proofs.NetRules.{targets-are}
use Rattle.vlog_text.proofs.NetSpelled.{describes-net}

-- ---- the values of all driven names

abbrev pub all_driven : Netlist → List (List ℕ)
all_driven net = input_words net ++ (state_names net ++ (gate_names net ++ (output_words net ++ paused_name ∷ [])))

driven-net : (net : Netlist) → driven_names (net_module net) ≡ all_driven net
driven-net net =
    ap (λ l. input_words net ++ (l ++ map (λ (a : Assign _). a.target) (net_assigns net)))
    (map-numbered (λ (r : Register). r.name) (net_register net) 0 net.latches)
    ∙ ap (λ l. input_words net ++ (state_names net ++ l)) (targets-are net)

pub names-differ : (net : Netlist) → IsWritable net → all_differ is_same_name (all_driven net) ≡ true
names-differ net is =
    let targets = gate_names net ++ net_outputs net in
    let kept = in-front (λ m. m == 115) (state_names net) targets (differ-states net is) (marks-states net (λ m. m == 115) refl)
    (all-both _ (gate_names net) (net_outputs net) (marks-gates net (λ m. not (m == 115)) refl refl) (marks-shown net (λ m. not (m == 115)) refl refl))
    (differ-targets net is) in
    in-front (λ m. m == 105) (input_words net) (state_names net ++ targets) (differ-inputs net is) (marks-inputs net (λ m. m == 105) refl)
    (all-both _ (state_names net) targets (marks-states net (λ m. not (m == 105)) refl)
    (all-both _ (gate_names net) (net_outputs net) (marks-gates net (λ m. not (m == 105)) refl refl) (marks-shown net (λ m. not (m == 105)) refl refl))) kept

abbrev all_values : Netlist → List Bool → List Bool → List Bool
all_values net latches inputs =
    let values = net_values net latches inputs in
    inputs ++ (latches ++ (gate_part net values ++ (output_part net values ++ value_in values net.paused ∷ [])))

-- as many values as names
length-all_values : (net : Netlist) (latches inputs : List Bool) → length latches ≡ length net.latches → length inputs ≡ length net.inputs
    → length (all_driven net) ≡ length (all_values net latches inputs)
length-all_values net latches inputs l i =
    let wide : length (inputs ++ latches) ≡ first_gate net = length-append inputs latches ∙ rw (i, l) refl in
    let values = net_values net latches inputs in
    let a = length-map net.inputs (λ (name : List ℕ). 105 ∷ 95 ∷ name) in
    let b = length-numbered (λ j (latch : Latch). state_name j) 0 net.latches in
    let c = length-numbered (λ k (gate : Gate). gate_name k gate.wire) 0 net.gates in
    let d = length-map net.outputs output_name in
    let e = length-map net.outputs (λ (o : NetOut). value_in values o.net.0) in
    let g = length-gate_part net latches inputs wide in
    simp length-append (rw (a, b, c, d, e, g, i, l) refl)

-- a valuation of the driven names, part by part
map-all_names : (net : Netlist) (v : List ℕ → Bool) → map v (all_driven net) ≡ map v (input_words net) ++
    (map v (state_names net) ++ (map v (gate_names net) ++ (map v (output_words net) ++ v paused_name ∷ [])))
map-all_names net v = simp map-append refl

gates-from_nets : (net : Netlist) (latches inputs : List Bool) (v : List ℕ → Bool) → Holds net latches inputs v
    → map v (gate_names net) ≡ gate_part net (net_values net latches inputs)
gates-from_nets net latches inputs v holds =
    let before = first_names net in
    let len : length (map v before) ≡ first_gate net = length-map before v ∙ length-append (input_words net) (state_names net)
    ∙ rw (length-map net.inputs (λ (name : List ℕ). 105 ∷ 95 ∷ name), length-numbered (λ j (latch : Latch). state_name j) 0 net.latches) refl in
    sym (drop_at (map v before) (map v (gate_names net)) (first_gate net) len)
    ∙ ap (drop (first_gate net)) (sym (map-append v before (gate_names net)) ∙ holds.nets)

values-from_Holds : (net : Netlist) (latches inputs : List Bool) (v : List ℕ → Bool) → Holds net latches inputs v
    → map v (driven_names (net_module net)) ≡ all_values net latches inputs
values-from_Holds net latches inputs v holds =
    ap (map v) (driven-net net) ∙ map-all_names net v
    ∙ rw (holds.latches_kept, holds.inputs_kept, gates-from_nets net latches inputs v holds, holds.outputs, holds.paused) refl

Holds-from_values : (net : Netlist) (latches inputs : List Bool) (v : List ℕ → Bool) → length latches ≡ length net.latches
    → length inputs ≡ length net.inputs → map v (all_driven net) ≡ all_values net latches inputs → Holds net latches inputs v
Holds-from_values net latches inputs v l i same =
    let values = net_values net latches inputs in
    let before = first_names net in
    let wide : length (inputs ++ latches) ≡ first_gate net = length-append inputs latches ∙ rw (i, l) refl in
    let inputs_len : length (map v (input_words net)) ≡ length inputs = length-map (input_words net) v
    ∙ length-map net.inputs (λ (name : List ℕ). 105 ∷ 95 ∷ name) ∙ sym i in
    let latches_len : length (map v (state_names net)) ≡ length latches = length-map (state_names net) v
    ∙ length-numbered (λ j (latch : Latch). state_name j) 0 net.latches ∙ sym l in
    let gates_len : length (map v (gate_names net)) ≡ length (gate_part net values) = length-map (gate_names net) v
    ∙ length-numbered (λ k (gate : Gate). gate_name k gate.wire) 0 net.gates ∙ sym (length-gate_part net latches inputs wide) in
    let outputs_len : length (map v (output_words net)) ≡ length (output_part net values) = length-map (output_words net) v
    ∙ length-map net.outputs output_name ∙ sym (length-map net.outputs (λ (o : NetOut). value_in values o.net.0)) in
    let a = same-parts (map v (input_words net)) _ inputs _ inputs_len (sym (map-all_names net v) ∙ same) in
    let b = same-parts (map v (state_names net)) _ latches _ latches_len a.1 in
    let c = same-parts (map v (gate_names net)) _ (gate_part net values) _ gates_len b.1 in
    let d = same-parts (map v (output_words net)) (v paused_name ∷ []) (output_part net values) (value_in values net.paused ∷ []) outputs_len c.1 in
    let first : take (first_gate net) values ≡ inputs ++ latches = ap (λ n. take n values) (sym wide) ∙ take-gate_values (inputs ++ latches) net.gates in
    let whole : (inputs ++ latches) ++ gate_part net values ≡ values = ap (λ x. x ++ gate_part net values) (sym first)
    ∙ take-append-drop (first_gate net) values in
    record {
      inputs_kept = a.0;
      latches_kept = b.0;
      nets = map-append v before (gate_names net) ∙ ap (λ x. x ++ map v (gate_names net)) (map-append v (input_words net) (state_names net))
          ∙ rw (a.0, b.0, c.0) whole;
      outputs = d.0;
      paused = cc d.1;
    }

-- ---- one instant

-- over all values of the registers and inputs there is an instant
pub instant_exists : (net : Netlist) → IsWritable net → (latches inputs : List Bool) → length latches ≡ length net.latches → length inputs ≡ length net.inputs
    → (v : List ℕ → Bool) × IsInstant (net_module net) latches inputs v
instant_exists net is latches inputs l i =
    let names = all_driven net in
    let values = all_values net latches inputs in
    let given = map-looked_up names values (names-differ net is) (length-all_values net latches inputs l i) in
    let holds = Holds-from_values net latches inputs (looked_up names values) l i given in
    (looked_up names values, instant-from_Holds net is latches inputs (looked_up names values) l i holds)

-- what the registers get
pub next_latches-module : (net : Netlist) → IsWritable net → (latches inputs : List Bool) (v : List ℕ → Bool) → Holds net latches inputs v
    → map (λ (r : Register). v r.from) (net_module net).registers ≡ next_latches net (net_values net latches inputs)
next_latches-module net is latches inputs v holds =
    map-numbered (λ (r : Register). v r.from) (net_register net) 0 net.latches
    ∙ numbered-map (λ (x : Latch). v (net_name net x.from.0)) 0 net.latches
    ∙ map-equal (λ (x : Latch). v (net_name net x.from.0)) (λ x. value_in (net_values net latches inputs) x.from.0) net.latches
    (λ k d h. let n = (get_or net.latches k d).from.0 in sym (value-name net v n (is.is_net.latches_in_range k d h)) ∙ ap (λ w. value_in w n) holds.nets)

-- what is shown
pub shown-module : (net : Netlist) (latches inputs : List Bool) (v : List ℕ → Bool) → Holds net latches inputs v
    → map v (net_outputs net) ≡ (shown net (net_values net latches inputs)).outputs ++ (shown net (net_values net latches inputs)).paused ∷ []
shown-module net latches inputs v holds =
    map-append v (output_words net) (paused_name ∷ []) ∙ rw (holds.outputs, holds.paused) refl

net_names-numbers : (net : Netlist) → net_names net ≡ map (net_name net) (range_with_len 0 (net_count net))
net_names-numbers net = fill_by_all (net_name net) (net_names net) (net_count net) [] (length-names net) (λ k h. sym (net_name-at net k h))

-- ---- runs

pub initial-module : (net : Netlist) → initial_registers (net_module net) ≡ initial_latches net
initial-module net =
    map-numbered (λ (r : Register). r.init) (net_register net) 0 net.latches ∙ numbered-map (λ (x : Latch). x.init) 0 net.latches

has-net : (net : Netlist) → IsWritable net → HasNet net (initial_registers (net_module net)) (IsInstant (net_module net))
    (λ kept inputs v. map (λ (x : Register). v x.from) (net_module net).registers) (Holds net)
has-net net is = record {
  begins = initial-module net;
  exists = instant_exists net is;
  holds = Holds-from_instant net is;
  kept = next_latches-module net is;
}

-- ---- the written text means the net

pub Means-written : (net : Netlist) → IsWritable net → Means (written net) net
Means-written net is =
    let k = has-net net is in
    let start = initial_registers (net_module net) in
    let names = driven_names (net_module net) in
    let values_told = λ (items : List Item) (vs : List (List ℕ → Bool)) (run : IsRun (vlog_machine (net_module net)) items vs).
    runs-are k (λ v. map v names) (all_values net) (values-from_Holds net) start items vs run in
    let all_shown = λ (values : List Bool). (shown net values).outputs ++ (shown net values).paused ∷ [] in
    let named = λ (latches inputs : List Bool) (v : List ℕ → Bool) (holds : Holds net latches inputs v). map-composed v (net_name net)
    (range_with_len 0 (net_count net)) ∙ ap (map v) (sym (net_names-numbers net)) ∙ holds.nets in
    record {
      design = net_module net;
      describes = describes-net net is;
      name = refl;
      inputs = refl;
      outputs = refl;
      registers = refl;
      wires = refl;
      runs = λ items widths. runs k items widths;
      one_run = λ items us vs u v. values_told items us u ∙ sym (values_told items vs v);
      shows = λ items vs run. runs-tell k (λ v. map v (net_outputs net)) all_shown (shown-module net) items vs run
          ∙ map-composed (λ (s : Shown). s.outputs ++ s.paused ∷ []) (shown net) (net_values_run net items);
      nets = λ items vs run. runs-tell k (λ v. map (λ n. v (net_name net n)) (range_with_len 0 (net_count net))) (λ values. values) named items vs run
          ∙ map-id (net_values_run net items);
    }
