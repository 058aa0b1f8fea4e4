-- Inner: one instant of a net's module: the assignments are met exactly where each name has the net's value.
use Rattle.std.proofs.Common.{◌≡◌, ℕ, ◌+◌, ◌<◌, Bool, false, List, [], ◌∷◌, ◌++◌, length, map, get_or, take, refl, sym, ap}
use Rattle.std.proofs.Common.{◌∙◌, subst, arith, zero-add}
use Rattle.std.specs.List.{AllByRecursion}
use Rattle.std.proofs.lemmas.List.{map-append, length-append, length-map, get_or-map, take_at, get_or_append_left, get_or-append-add}
use Rattle.std.proofs.lemmas.List.Elements.{recursion_from_All, All-append, All-map, All-cons, All-nil}
use Rattle.base_facts.proofs.Lists.{all-split, map-equal, maps-at}
use Rattle.net_ir.specs.declared.netlist.Gate.{Gate}
use Rattle.net_ir.specs.declared.netlist.Latch.{Latch}
use Rattle.net_ir.specs.declared.netlist.NetOut.{NetOut}
use Rattle.net_ir.specs.Gates.{value_in, gate_values, Solves}
use Rattle.net_ir.specs.Netlists.{Netlist, first_gate, net_count}
use Rattle.net_ir.specs.Numbered.{numbered}
use Rattle.net_ir.specs.Runs.{net_values}
use Rattle.net_ir.specs.Writing.{IsWritable}
use Rattle.net_ir.proofs.Exports.{length-numbered, get_or-numbered, map-numbered, All-numbered, op_value-same, Solves-gate_values, gate_values-from_Solves}
use Rattle.net_ir.proofs.Exports.{net_cases, numbered-at}
use Rattle.net_expressions.specs.NetNames.{state_name, gate_name, gate_names}
use Rattle.net_expressions.specs.Trees.{Expr}
use Rattle.net_expressions.specs.Values.{value_of}
use Rattle.net_expressions.proofs.Exports.{state_names, any_gate, any_latch, op-expr-value}
use Rattle.vlog_text.specs.Trees.{Register, Assign}
use Rattle.vlog_text.specs.Names.{paused_name}
use Rattle.vlog_text.specs.Machine.{IsInstant}
use Rattle.vlog_text.specs.Written.{input_name, output_name, net_name, gate_assign, output_assign, paused_assign, net_assigns, net_register}
use Rattle.vlog_text.proofs.NetNames.{input_words, output_words}
use Rattle.vlog_text.proofs.NetRules.{net_name-input, net_name-state, net_name-gate}
use Rattle.vlog_text.proofs.NetModules.{net_module}

-- ---- the names of all nets

abbrev pub first_names : Netlist → List (List ℕ)
first_names net = input_words net ++ state_names net

abbrev pub net_names : Netlist → List (List ℕ)
net_names net = first_names net ++ gate_names net

length-first : (net : Netlist) → length (first_names net) ≡ first_gate net
length-first net = length-append (input_words net) (state_names net)
    ∙ rw (length-map net.inputs input_name, length-numbered (λ j (latch : Latch). state_name j) 0 net.latches) refl

pub length-names : (net : Netlist) → length (net_names net) ≡ net_count net
length-names net = length-append (first_names net) (gate_names net)
    ∙ rw (length-first net, length-numbered (λ k (gate : Gate). gate_name k gate.wire) 0 net.gates) refl

at-gate : (net : Netlist) (k : ℕ) (d : Gate) → k < length net.gates → get_or (net_names net) (first_gate net + k) [] ≡ gate_name k (get_or net.gates k d).wire
at-gate net k d h =
    ap (λ n. get_or (net_names net) (n + k) []) (sym (length-first net)) ∙ get_or-append-add (first_names net) (gate_names net) k []
    ∙ get_or-numbered (λ k (gate : Gate). gate_name k gate.wire) 0 net.gates k [] d h ∙ ap (λ m. gate_name m (get_or net.gates k d).wire) (zero-add k)

pub net_name-at : (net : Netlist) (n : ℕ) → n < net_count net → net_name net n ≡ get_or (net_names net) n []
net_name-at net n h =
    net_cases net n h
    (λ low.
    let wide = length-map net.inputs input_name in
    let whole = length-append (input_words net) (state_names net) in
    net_name-input net n low ∙ sym (get_or_append_left (first_names net) (gate_names net) [] n (omega arith)
    ∙ get_or_append_left (input_words net) (state_names net) [] n (omega arith) ∙ get_or-map input_name net.inputs n [] [] low))
    (λ j low e.
    let wide = length-map net.inputs input_name in
    let deep = length-numbered (λ j (latch : Latch). state_name j) 0 net.latches in
    let whole = length-append (input_words net) (state_names net) in
    ap (net_name net) e ∙ net_name-state net j low
    ∙ sym (ap (λ m. get_or (net_names net) m []) e
    ∙ get_or_append_left (first_names net) (gate_names net) [] (length net.inputs + j) (omega arith)
    ∙ ap (λ m. get_or (first_names net) (m + j) []) (sym wide) ∙ get_or-append-add (input_words net) (state_names net) j []
    ∙ get_or-numbered (λ j (latch : Latch). state_name j) 0 net.latches j [] any_latch low ∙ ap state_name (zero-add j)))
    (λ k low e. ap (net_name net) e ∙ net_name-gate net k any_gate low ∙ sym (ap (λ m. get_or (net_names net) m []) e ∙ at-gate net k any_gate low))

-- ---- every name has the net's value

pub record Holds (net : Netlist) (latches inputs : List Bool) (v : List ℕ → Bool) : Type 0 where
  pub inputs_kept : map v (input_words net) ≡ inputs
  pub latches_kept : map v (state_names net) ≡ latches
  pub nets : map v (net_names net) ≡ net_values net latches inputs
  pub outputs : map v (output_words net) ≡ map (λ o. value_in (net_values net latches inputs) o.net.0) net.outputs
  pub paused : v paused_name ≡ value_in (net_values net latches inputs) net.paused

-- what a valuation says of a net's name
pub value-name : (net : Netlist) (v : List ℕ → Bool) (n : ℕ) → n < net_count net → value_in (map v (net_names net)) n ≡ v (net_name net n)
value-name net v n h =
    let len = length-names net in
    get_or-map v (net_names net) n [] false (omega arith) ∙ ap v (sym (net_name-at net n h))

-- ---- the assignments are met, so every name has the net's value

abbrev Met : (List ℕ → Bool) → Assign Expr → Type 0
Met v a = v a.target ≡ value_of v a.value

outputs-met : (net : Netlist) (v : List ℕ → Bool) (outputs : List NetOut) → AllByRecursion (Met v) (map (output_assign net) outputs)
    → map v (map output_name outputs) ≡ map (λ o. v (net_name net o.net.0)) outputs
outputs-met net v [] met = refl
outputs-met net v (o ∷ outputs) met =
    let here : v (output_name o) ≡ v (net_name net o.net.0) = met.0 in
    let rest = outputs-met net v outputs met.1 in
    cc

gates-met : (net : Netlist) → IsWritable net → (v : List ℕ → Bool) → AllByRecursion (Met v) (numbered (gate_assign net) 0 net.gates)
    → Solves (first_gate net) net.gates (map v (net_names net))
gates-met net is v met k d h =
    let gate = get_or net.gates k d in
    let len = length-names net in
    let low = is.is_net.reads_lower k d h in
    let named : value_in (map v (net_names net)) (first_gate net + k) ≡ v (gate_name k gate.wire) =
    get_or-map v (net_names net) (first_gate net + k) [] false (omega arith) ∙ ap v (at-gate net k d h) in
    let assigned = numbered-at (Met v) (gate_assign net) 0 net.gates k d h met in
    let same = op_value-same (λ n. v (net_name net n)) (value_in (map v (net_names net))) gate.op (first_gate net + k) low
    (λ n below. sym (value-name net v n (omega arith))) in
    named ∙ ap (λ m. v (gate_name m gate.wire)) (sym (zero-add k)) ∙ assigned ∙ op-expr-value v (net_name net) gate.op ∙ same

-- the values of the inputs and the latches come first
values_before_gates : (net : Netlist) (latches inputs : List Bool) (v : List ℕ → Bool) → map v (input_words net) ≡ inputs → map v (state_names net) ≡ latches
    → take (first_gate net) (map v (net_names net)) ≡ inputs ++ latches
values_before_gates net latches inputs v i l =
    let len : length (map v (first_names net)) ≡ first_gate net = length-map (first_names net) v ∙ length-first net in
    ap (take (first_gate net)) (map-append v (first_names net) (gate_names net))
    ∙ take_at (map v (first_names net)) (map v (gate_names net)) (first_gate net) len
    ∙ map-append v (input_words net) (state_names net) ∙ rw (i, l) refl

pub Holds-from_instant : (net : Netlist) → IsWritable net → (latches inputs : List Bool) (v : List ℕ → Bool) → IsInstant (net_module net) latches inputs v
    → Holds net latches inputs v
Holds-from_instant net is latches inputs v instant =
    let two = all-split (Met v) (numbered (gate_assign net) 0 net.gates) (map (output_assign net) net.outputs ++ paused_assign net ∷ []) instant.assigns_met in
    let three = all-split (Met v) (map (output_assign net) net.outputs) (paused_assign net ∷ []) two.1 in
    let latches_kept : map v (state_names net) ≡ latches = map-numbered v (λ j (l : Latch). state_name j) 0 net.latches
    ∙ sym (map-numbered (λ (r : Register). v r.name) (net_register net) 0 net.latches) ∙ instant.registers_kept in
    let u = map v (net_names net) in
    let start = values_before_gates net latches inputs v instant.inputs_given latches_kept in
    let nets : u ≡ net_values net latches inputs = gate_values-from_Solves (first_gate net) net.gates u is.is_net.reads_lower
    (length-map (net_names net) v ∙ length-names net) (gates-met net is v two.0) ∙ ap (λ w. gate_values w net.gates) start in
    let each = λ (n : ℕ) (h : n < net_count net). sym (value-name net v n h) ∙ ap (λ w. value_in w n) nets in
    record {
      inputs_kept = instant.inputs_given;
      latches_kept = latches_kept;
      nets = nets;
      outputs = outputs-met net v net.outputs three.0
          ∙ map-equal (λ (o : NetOut). v (net_name net o.net.0)) (λ o. value_in (net_values net latches inputs) o.net.0) net.outputs
          (λ k d h. each (get_or net.outputs k d).net.0 (is.is_net.outputs_in_range k d h));
      paused = three.1.0 ∙ each net.paused is.is_net.paused_in_range;
    }

-- ---- every name has the net's value, so the assignments are met

pub instant-from_Holds : (net : Netlist) → IsWritable net → (latches inputs : List Bool) (v : List ℕ → Bool) → length latches ≡ length net.latches
    → length inputs ≡ length net.inputs → Holds net latches inputs v → IsInstant (net_module net) latches inputs v
instant-from_Holds net is latches inputs v l i holds =
    let u = map v (net_names net) in
    let len = length-names net in
    let wide : length (inputs ++ latches) ≡ first_gate net = length-append inputs latches ∙ rw (i, l) refl in
    let solves : Solves (first_gate net) net.gates u = subst (Solves (first_gate net) net.gates) (sym holds.nets)
    (Solves-gate_values (first_gate net) (inputs ++ latches) net.gates wide is.is_net.reads_lower) in
    let each = λ (n : ℕ) (h : n < net_count net). ap (λ w. value_in w n) (sym holds.nets) ∙ value-name net v n h in
    let of_gates = All-numbered (Met v) (gate_assign net) 0 net.gates (λ k d h.
    let gate = get_or net.gates k d in
    let low = is.is_net.reads_lower k d h in
    let named : v (gate_name k gate.wire) ≡ value_in u (first_gate net + k) = ap v (sym (at-gate net k d h))
    ∙ sym (get_or-map v (net_names net) (first_gate net + k) [] false (omega arith)) in
    let same = op_value-same (value_in u) (λ n. v (net_name net n)) gate.op (first_gate net + k) low (λ n below. value-name net v n (omega arith)) in
    ap (λ m. v (gate_name m gate.wire)) (zero-add k) ∙ named ∙ solves k d h ∙ same ∙ sym (op-expr-value v (net_name net) gate.op))
    in
    let of_outputs = All-map (Met v) (output_assign net) net.outputs (λ k d h.
    let o = get_or net.outputs k d in
    let len_o = length-map net.outputs output_name in
    ap v (sym (get_or-map output_name net.outputs k d [] h))
    ∙ maps-at v (λ (x : NetOut). value_in (net_values net latches inputs) x.net.0) (output_words net) net.outputs k [] d holds.outputs (omega arith) h
    ∙ each o.net.0 (is.is_net.outputs_in_range k d h))
    in
    let of_paused = holds.paused ∙ each net.paused is.is_net.paused_in_range in
    record {
      inputs_given = holds.inputs_kept;
      registers_kept = map-numbered (λ (r : Register). v r.name) (net_register net) 0 net.latches
          ∙ sym (map-numbered v (λ j (x : Latch). state_name j) 0 net.latches) ∙ holds.latches_kept;
      assigns_met = recursion_from_All (Met v) (net_assigns net)
          (All-append (Met v) (numbered (gate_assign net) 0 net.gates) (map (output_assign net) net.outputs ++ paused_assign net ∷ []) of_gates
          (All-append (Met v) (map (output_assign net) net.outputs) (paused_assign net ∷ []) of_outputs
          (All-cons (Met v) (paused_assign net) [] of_paused (All-nil (Met v)))));
    }
