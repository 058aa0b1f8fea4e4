-- One instant of a net's circuit: the tables hold exactly where each name has the net's value.
use Rattle.std.proofs.Common.{◌≡◌, ℕ, ◌+◌, ◌<◌, Bool, true, false, not, ◌&&◌, ◌||◌, List, [], ◌∷◌, ◌++◌, length, map, get_or, take, refl, sym, ap}
use Rattle.std.proofs.Common.{◌∙◌, subst, arith, zero-add}
use Rattle.std.specs.List.{AllByRecursion}
use Rattle.std.proofs.lemmas.List.{map-append, length-append, length-map, get_or-map, take_at}
use Rattle.std.proofs.lemmas.List.Elements.{recursion_from_All, All-append, All-map, All-cons, All-nil}
use Rattle.base_facts.proofs.Lists.{all-split, map-equal, maps-at}
use Rattle.net_ir.specs.declared.netlist.Op.{Op}
use Rattle.net_ir.specs.declared.netlist.Op.TheVariants.{Const, Copy, Not, And, Or}
use Rattle.net_ir.specs.declared.netlist.NetOut.{NetOut}
use Rattle.net_ir.specs.declared.netlist.Latch.{Latch}
use Rattle.net_ir.specs.Gates.{op_value, value_in, gate_values, Solves}
use Rattle.net_ir.specs.Netlists.{Netlist, first_gate, net_count}
use Rattle.net_ir.specs.Runs.{net_values}
use Rattle.net_ir.proofs.Exports.{op_value-same, Solves-gate_values, gate_values-from_Solves, length-numbered, get_or-numbered, map-numbered, All-numbered}
use Rattle.net_ir.proofs.Exports.{numbered-at}
use Rattle.blif_text.specs.Circuits.{CircuitLatch, Table}
use Rattle.blif_text.specs.Runs.{table_value, IsInstant}
use Rattle.blif_text.specs.Written.{output_word, net_word, paused_word, operands, op_rows, copy_table, input_table, gate_table, output_table, net_latch}
use Rattle.blif_text.specs.Written.{net_tables, net_circuit, input_word, latch_word, gate_word}
use Rattle.blif_text.proofs.NetNames.{shown_words, input_words, latch_words, gate_words, net_words, length-net_words, net_word-at, at-gate}
use Rattle.net_ir.specs.Numbered.{numbered}
use Rattle.net_ir.specs.Writing.{IsWritable}

-- ---- what the tables give

copy_row : (a : Bool) → ((a && true) || false) ≡ a
copy_row true = refl
copy_row false = refl

and_row : (a b : Bool) → ((a && (b && true)) || false) ≡ (a && b)
and_row true true = refl
and_row true false = refl
and_row false b = refl

or_rows : (a b : Bool) → ((a && true) || ((b && true) || false)) ≡ (a || b)
or_rows true b = refl
or_rows false true = refl
or_rows false false = refl

copy_value : (source target : List ℕ) (v : List ℕ → Bool) → table_value (copy_table source target) v ≡ v source
copy_value source target v = copy_row (v source)

-- the table of an operator gives the operator's value
op_table : (v : List ℕ → Bool) (word : ℕ → List ℕ) (op : Op) (output : List ℕ)
    → table_value (record { inputs = map word (operands op); output = output; rows = op_rows op }) v ≡ op_value (λ n. v (word n)) op
op_table v word (Const true) output = refl
op_table v word (Const false) output = refl
op_table v word (Copy n) output = copy_row (v (word n.0))
op_table v word (Not n) output = copy_row (not (v (word n.0)))
op_table v word (And m n) output = and_row (v (word m.0)) (v (word n.0))
op_table v word (Or m n) output = or_rows (v (word m.0)) (v (word n.0))

-- ---- every name has the net's value

pub record Holds (net : Netlist) (latches inputs : List Bool) (v : List ℕ → Bool) : Type 0 where
  pub names : map v net.inputs ≡ inputs
  pub inputs_kept : map v (input_words net) ≡ inputs
  pub latches_kept : map v (latch_words net) ≡ latches
  pub nets : map v (net_words net) ≡ net_values net latches inputs
  pub outputs : map v (shown_words net) ≡ map (λ o. value_in (net_values net latches inputs) o.net.0) net.outputs
  pub paused : v paused_word ≡ value_in (net_values net latches inputs) net.paused

-- what a valuation says of a net's name
pub value-word : (net : Netlist) (v : List ℕ → Bool) (n : ℕ) → n < net_count net → value_in (map v (net_words net)) n ≡ v (net_word net n)
value-word net v n h =
    let len = length-net_words net in
    get_or-map v (net_words net) n [] false (omega arith) ∙ ap v (sym (net_word-at net n h))

-- ---- the tables hold, so every name has the net's value

abbrev Met : (List ℕ → Bool) → Table → Type 0
Met v t = v t.output ≡ table_value t v

inputs-met : (v : List ℕ → Bool) (n : ℕ) (names : List (List ℕ)) → AllByRecursion (Met v) (numbered input_table n names)
    → map v (numbered (λ j name. input_word j) n names) ≡ map v names
inputs-met v n [] met = refl
inputs-met v n (name ∷ names) met =
    let here : v (input_word n) ≡ v name = met.0 ∙ copy_value name (input_word n) v in
    let rest = inputs-met v (n + 1) names met.1 in
    cc

outputs-met : (net : Netlist) (v : List ℕ → Bool) (outputs : List NetOut) → AllByRecursion (Met v) (map (output_table net) outputs)
    → map v (map (λ o. output_word net.inputs o.name) outputs) ≡ map (λ o. v (net_word net o.net.0)) outputs
outputs-met net v [] met = refl
outputs-met net v (o ∷ outputs) met =
    let here : v (output_word net.inputs o.name) ≡ v (net_word net o.net.0) = met.0 ∙ copy_value (net_word net o.net.0) (output_word net.inputs o.name) v in
    let rest = outputs-met net v outputs met.1 in
    cc

gates-met : (net : Netlist) → IsWritable net → (v : List ℕ → Bool) → AllByRecursion (Met v) (numbered (gate_table net) 0 net.gates)
    → Solves (first_gate net) net.gates (map v (net_words net))
gates-met net is v met k d h =
    let gate = get_or net.gates k d in
    let len = length-net_words net in
    let low = is.is_net.reads_lower k d h in
    let named : value_in (map v (net_words net)) (first_gate net + k) ≡ v (gate_word k gate.wire) = get_or-map v (net_words net) (first_gate net + k) [] false
    (omega arith) ∙ ap v (at-gate net k d h) in
    let table = numbered-at (Met v) (gate_table net) 0 net.gates k d h met in
    let same = op_value-same (λ n. v (net_word net n)) (value_in (map v (net_words net))) gate.op (first_gate net + k) low
    (λ n below. sym (value-word net v n (omega arith))) in
    named ∙ ap (λ m. v (gate_word m gate.wire)) (sym (zero-add k)) ∙ table ∙ op_table v (net_word net) gate.op (gate_word (0 + k) gate.wire) ∙ same

-- the values of the inputs and the latches come first
values_before_gates : (net : Netlist) (latches inputs : List Bool) (v : List ℕ → Bool) → map v (input_words net) ≡ inputs → map v (latch_words net) ≡ latches
    → take (first_gate net) (map v (net_words net)) ≡ inputs ++ latches
values_before_gates net latches inputs v i l =
    let before = input_words net ++ latch_words net in
    let len : length (map v before) ≡ first_gate net = length-map before v ∙ length-append (input_words net) (latch_words net)
    ∙ rw (length-numbered (λ j (name : List ℕ). input_word j) 0 net.inputs, length-numbered (λ j (latch : Latch). latch_word j) 0 net.latches) refl in
    ap (take (first_gate net)) (map-append v before (gate_words net)) ∙ take_at (map v before) (map v (gate_words net)) (first_gate net) len
    ∙ map-append v (input_words net) (latch_words net) ∙ rw (i, l) refl

pub Holds-from_instant : (net : Netlist) → IsWritable net → (latches inputs : List Bool) (v : List ℕ → Bool) → IsInstant (net_circuit net) latches inputs v
    → Holds net latches inputs v
Holds-from_instant net is latches inputs v instant =
    let first_two = numbered input_table 0 net.inputs ++ numbered (gate_table net) 0 net.gates in
    let four = all-split (Met v) (first_two ++ map (output_table net) net.outputs) (copy_table (net_word net net.paused) paused_word ∷ []) instant.tables_met in
    let three = all-split (Met v) first_two (map (output_table net) net.outputs) four.0 in
    let two = all-split (Met v) (numbered input_table 0 net.inputs) (numbered (gate_table net) 0 net.gates) three.0 in
    let inputs_kept : map v (input_words net) ≡ inputs = inputs-met v 0 net.inputs two.0 ∙ instant.inputs_given in
    let latches_kept : map v (latch_words net) ≡ latches = map-numbered v (λ j (l : Latch). latch_word j) 0 net.latches
    ∙ sym (map-numbered (λ (l : CircuitLatch). v l.target) (net_latch net) 0 net.latches) ∙ instant.latches_kept in
    let u = map v (net_words net) in
    let start = values_before_gates net latches inputs v inputs_kept latches_kept in
    let nets : u ≡ net_values net latches inputs = gate_values-from_Solves (first_gate net) net.gates u is.is_net.reads_lower
    (length-map (net_words net) v ∙ length-net_words net) (gates-met net is v two.1) ∙ ap (λ w. gate_values w net.gates) start in
    let each = λ (n : ℕ) (h : n < net_count net). sym (value-word net v n h) ∙ ap (λ w. value_in w n) nets in
    record {
      names = instant.inputs_given;
      inputs_kept = inputs_kept;
      latches_kept = latches_kept;
      nets = nets;
      outputs = outputs-met net v net.outputs three.1
          ∙ map-equal (λ (o : NetOut). v (net_word net o.net.0)) (λ o. value_in (net_values net latches inputs) o.net.0) net.outputs
          (λ k d h. each (get_or net.outputs k d).net.0 (is.is_net.outputs_in_range k d h));
      paused = four.1.0 ∙ copy_value (net_word net net.paused) paused_word v ∙ each net.paused is.is_net.paused_in_range;
    }

-- ---- every name has the net's value, so the tables hold

pub instant-from_Holds : (net : Netlist) → IsWritable net → (latches inputs : List Bool) (v : List ℕ → Bool) → length latches ≡ length net.latches
    → length inputs ≡ length net.inputs → Holds net latches inputs v → IsInstant (net_circuit net) latches inputs v
instant-from_Holds net is latches inputs v l i holds =
    let u = map v (net_words net) in
    let len = length-net_words net in
    let wide : length (inputs ++ latches) ≡ first_gate net = length-append inputs latches ∙ rw (i, l) refl in
    let solves : Solves (first_gate net) net.gates u = subst (Solves (first_gate net) net.gates) (sym holds.nets)
    (Solves-gate_values (first_gate net) (inputs ++ latches) net.gates wide is.is_net.reads_lower) in
    let each = λ (n : ℕ) (h : n < net_count net). ap (λ w. value_in w n) (sym holds.nets) ∙ value-word net v n h in
    let of_inputs = All-numbered (Met v) input_table 0 net.inputs (λ k d h.
    let len_i = length-numbered (λ j (name : List ℕ). input_word j) 0 net.inputs in
    ap v (sym (get_or-numbered (λ j (name : List ℕ). input_word j) 0 net.inputs k [] d h))
    ∙ maps-at v v (input_words net) net.inputs k [] d (holds.inputs_kept ∙ sym holds.names) (omega arith) h
    ∙ sym (copy_value (get_or net.inputs k d) (input_word (0 + k)) v))
    in
    let of_gates = All-numbered (Met v) (gate_table net) 0 net.gates (λ k d h.
    let gate = get_or net.gates k d in
    let low = is.is_net.reads_lower k d h in
    let named : v (gate_word k gate.wire) ≡ value_in u (first_gate net + k) = ap v (sym (at-gate net k d h))
    ∙ sym (get_or-map v (net_words net) (first_gate net + k) [] false (omega arith)) in
    let same = op_value-same (value_in u) (λ n. v (net_word net n)) gate.op (first_gate net + k) low (λ n below. value-word net v n (omega arith)) in
    ap (λ m. v (gate_word m gate.wire)) (zero-add k) ∙ named ∙ solves k d h ∙ same ∙ sym (op_table v (net_word net) gate.op (gate_word (0 + k) gate.wire)))
    in
    let of_outputs = All-map (Met v) (output_table net) net.outputs (λ k d h.
    let o = get_or net.outputs k d in
    let len_o = length-map net.outputs (λ (x : NetOut). output_word net.inputs x.name) in
    ap v (sym (get_or-map (λ (x : NetOut). output_word net.inputs x.name) net.outputs k d [] h))
    ∙ maps-at v (λ (x : NetOut). value_in (net_values net latches inputs) x.net.0) (shown_words net) net.outputs k [] d holds.outputs (omega arith) h
    ∙ each o.net.0 (is.is_net.outputs_in_range k d h) ∙ sym (copy_value (net_word net o.net.0) (output_word net.inputs o.name) v))
    in
    let of_paused = holds.paused ∙ each net.paused is.is_net.paused_in_range ∙ sym (copy_value (net_word net net.paused) paused_word v) in
    let first_two = numbered input_table 0 net.inputs ++ numbered (gate_table net) 0 net.gates in
    let last = copy_table (net_word net net.paused) paused_word in
    record {
      inputs_given = holds.names;
      latches_kept = map-numbered (λ (x : CircuitLatch). v x.target) (net_latch net) 0 net.latches
          ∙ sym (map-numbered v (λ j (x : Latch). latch_word j) 0 net.latches) ∙ holds.latches_kept;
      tables_met = recursion_from_All (Met v) (net_tables net)
          (All-append (Met v) (first_two ++ map (output_table net) net.outputs) (last ∷ [])
          (All-append (Met v) first_two (map (output_table net) net.outputs)
          (All-append (Met v) (numbered input_table 0 net.inputs) (numbered (gate_table net) 0 net.gates) of_inputs of_gates) of_outputs)
          (All-cons (Met v) last [] of_paused (All-nil (Met v))));
    }
