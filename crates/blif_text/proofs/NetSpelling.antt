-- The circuit of a net has a spelling: its tables are small, and each name that is used is driven.
use Rattle.std.proofs.Common.{◌≡◌, ℕ, ◌+◌, ◌<◌, ◌≤◌, true, false, List, [], ◌∷◌, ◌++◌, length, map, get_or, refl, sym, ap, ◌∙◌, subst, arith, ⊎_elim}
use Rattle.std.proofs.Common.{append_assoc, All, Ok}
use Rattle.std.specs.Prelude.{flat_map}
use Rattle.std.specs.List.{list_all, list_any}
use Rattle.std.proofs.lemmas.Bool.{and_from, or_cases}
use Rattle.std.proofs.lemmas.List.Elements.{All-append, All-map, All-cons, All-nil}
use Rattle.std.proofs.lemmas.List.Folds.{list_any-append, list_any_at}
use Rattle.net_ir.specs.declared.netlist.Op.{Op}
use Rattle.net_ir.specs.declared.netlist.Op.TheVariants.{Const, Copy, Not, And, Or}
use Rattle.net_ir.specs.declared.netlist.Gate.{Gate}
use Rattle.net_ir.specs.declared.netlist.Latch.{Latch}
use Rattle.base_types.specs.Distinct.{all_differ}
use Rattle.base_types.specs.Names.{is_same_name}
use Rattle.base_types.proofs.Exports.{same_name-self}
use Rattle.net_ir.specs.Gates.{operand_end}
use Rattle.net_ir.specs.Netlists.{Netlist, net_count}
use Rattle.net_ir.specs.NameLists.{is_among}
use Rattle.blif_text.specs.Circuits.{CircuitLatch, Table, reading}
use Rattle.blif_text.specs.Written.{output_word, net_word, paused_word, operands, op_rows, copy_table, input_table, gate_table, output_table, net_latch}
use Rattle.blif_text.specs.Written.{output_words, net_tables, net_circuit, input_word, latch_word, gate_word, written}
use Rattle.blif_text.proofs.WordBytes.{is_word, is_word-name, decimal_bytes}
use Rattle.blif_text.proofs.RoundTrip.{HasSpelling, latch_fits, table_fits, used_names, reading-circuit_text}
use Rattle.blif_text.proofs.NetNames.{shown_words, input_words, latch_words, gate_words, net_words, length-net_words, net_word-at}
use Rattle.blif_text.proofs.NetNames.{is_word-net_word, is_word-gate, words-inputs, words-outputs, is_word-output}
use Rattle.blif_text.proofs.NetDrivers.{table_names, driven-net, names-differ}
use Rattle.net_ir.proofs.Exports.{list_all-parts, list_all-from_All, list_all-get_or, list_all-flat_map, list_any-left, list_any-right, All-numbered}
use Rattle.net_ir.proofs.Exports.{map-numbered}
use Rattle.net_ir.specs.Numbered.{numbered}
use Rattle.net_ir.specs.Writing.{IsWritable}

-- ---- tables and latches

copy_fits : (source target : List ℕ) → is_word source ≡ true → is_word target ≡ true → table_fits (copy_table source target) ≡ true
copy_fits source target s t = rw (s, t) refl

op_fits : (net : Netlist) → IsWritable net → (op : Op) (output : List ℕ) → operand_end op ≤ net_count net → is_word output ≡ true
    → table_fits (record { inputs = map (net_word net) (operands op); output = output; rows = op_rows op }) ≡ true
op_fits net is (Const true) output low fits = rw fits refl
op_fits net is (Const false) output low fits = rw fits refl
op_fits net is (Copy n) output low fits = rw (is_word-net_word net is n.0 (omega arith), fits) refl
op_fits net is (Not n) output low fits = rw (is_word-net_word net is n.0 (omega arith), fits) refl
op_fits net is (And m n) output low fits =
    rw (is_word-net_word net is m.0 (omega arith), is_word-net_word net is n.0 (omega arith), fits) refl
op_fits net is (Or m n) output low fits =
    rw (is_word-net_word net is m.0 (omega arith), is_word-net_word net is n.0 (omega arith), fits) refl

-- a gate reads nets of the net
operands_in_range : (net : Netlist) → IsWritable net → (k : ℕ) (d : Gate) → k < length net.gates → operand_end (get_or net.gates k d).op ≤ net_count net
operands_in_range net is k d h = let low = is.is_net.reads_lower k d h in omega arith

tables_fit : (net : Netlist) → IsWritable net → All (λ t. table_fits t ≡ true) (net_tables net)
tables_fit net is =
    let P = λ (t : Table). table_fits t ≡ true in
    let few = is.is_net.numbered in
    let inputs = All-numbered P input_table 0 net.inputs
    (λ k d h. copy_fits (get_or net.inputs k d) (input_word (0 + k)) (list_all-get_or is_word net.inputs k d h (words-inputs net is))
    (decimal_bytes (0 + k) (omega arith))) in
    let gates = All-numbered P (gate_table net) 0 net.gates
    (λ k d h. op_fits net is (get_or net.gates k d).op (gate_word (0 + k) (get_or net.gates k d).wire) (operands_in_range net is k d h)
    (is_word-gate (0 + k) (get_or net.gates k d).wire (omega arith) (is.wires_fit k d h))) in
    let outputs = All-map P (output_table net) net.outputs
    (λ k d h. copy_fits (net_word net (get_or net.outputs k d).net.0) (output_word net.inputs (get_or net.outputs k d).name)
    (is_word-net_word net is (get_or net.outputs k d).net.0 (is.is_net.outputs_in_range k d h))
    (is_word-output net.inputs (get_or net.outputs k d).name (is.is_net.output_names_fit k d h))) in
    let paused = All-cons P (copy_table (net_word net net.paused) paused_word) []
    (copy_fits (net_word net net.paused) paused_word (is_word-net_word net is net.paused is.is_net.paused_in_range) refl) (All-nil P) in
    All-append P (numbered input_table 0 net.inputs ++ numbered (gate_table net) 0 net.gates ++ map (output_table net) net.outputs)
    (copy_table (net_word net net.paused) paused_word ∷ [])
    (All-append P (numbered input_table 0 net.inputs ++ numbered (gate_table net) 0 net.gates) (map (output_table net) net.outputs)
    (All-append P (numbered input_table 0 net.inputs) (numbered (gate_table net) 0 net.gates) inputs gates) outputs)
    paused

latches_fit : (net : Netlist) → IsWritable net → All (λ l. latch_fits l ≡ true) (numbered (net_latch net) 0 net.latches)
latches_fit net is = All-numbered (λ l. latch_fits l ≡ true) (net_latch net) 0 net.latches
    (λ k d h.
    let few = is.is_net.numbered in
    let number : is_word (latch_word (0 + k)) ≡ true = decimal_bytes (0 + k) (omega arith) in
    and_from (is_word (net_word net (get_or net.latches k d).from.0)) (is_word (latch_word (0 + k)))
    (is_word-net_word net is (get_or net.latches k d).from.0 (is.is_net.latches_in_range k d h)) number)

-- ---- each name that is used is driven

abbrev all_names : Netlist → List (List ℕ)
all_names net = net.inputs ++ (latch_words net ++ table_names net)

abbrev Driven : Netlist → List ℕ → Type 0
Driven net name = is_among name (all_names net) ≡ true

driven-name : (net : Netlist) (k : ℕ) (d : List ℕ) → k < length net.inputs → Driven net (get_or net.inputs k d)
driven-name net k d h =
    let name = get_or net.inputs k d in
    list_any-left (is_same_name name) net.inputs (latch_words net ++ table_names net) (list_any_at (is_same_name name) net.inputs k d h (same_name-self name))

driven-table : (net : Netlist) (name : List ℕ) → is_among name (table_names net) ≡ true → Driven net name
driven-table net name h =
    list_any-right (is_same_name name) net.inputs (latch_words net ++ table_names net)
    (list_any-right (is_same_name name) (latch_words net) (table_names net) h)

driven-net_words : (net : Netlist) (name : List ℕ) → is_among name (net_words net) ≡ true → Driven net name
driven-net_words net name h =
    let p = is_same_name name in
    let inputs = input_words net in
    let latches = latch_words net in
    let gates = gate_words net in
    let outputs = shown_words net in
    ⊎_elim
    (λ first. ⊎_elim
    (λ i. driven-table net name (list_any-left p (inputs ++ gates ++ outputs) (paused_word ∷ [])
    (list_any-left p (inputs ++ gates) outputs (list_any-left p inputs gates i))))
    (λ l. list_any-right p net.inputs (latches ++ table_names net) (list_any-left p latches (table_names net) l))
    (or_cases (list_any p inputs) (list_any p latches) (sym (list_any-append p inputs latches) ∙ first)))
    (λ g. driven-table net name (list_any-left p (inputs ++ gates ++ outputs) (paused_word ∷ [])
    (list_any-left p (inputs ++ gates) outputs (list_any-right p inputs gates g))))
    (or_cases (list_any p (inputs ++ latches)) (list_any p gates) (sym (list_any-append p (inputs ++ latches) gates) ∙ h))

driven-net_word : (net : Netlist) (n : ℕ) → n < net_count net → Driven net (net_word net n)
driven-net_word net n h =
    let name = net_word net n in
    let here : is_same_name name (get_or (net_words net) n []) ≡ true = ap (is_same_name name) (sym (net_word-at net n h)) ∙ same_name-self name in
    let len = length-net_words net in
    driven-net_words net name (list_any_at (is_same_name name) (net_words net) n [] (omega arith) here)

driven-output : (net : Netlist) (name : List ℕ) → is_among name (output_words net) ≡ true → Driven net name
driven-output net name h =
    let p = is_same_name name in
    let before = input_words net ++ gate_words net in
    let outputs = shown_words net in
    let whole = ap (list_any p) (append_assoc before outputs (paused_word ∷ [])) in
    driven-table net name (whole ∙ list_any-right p before (output_words net) h)

operands_driven : (net : Netlist) (op : Op) → operand_end op ≤ net_count net
    → list_all (λ name. is_among name (all_names net)) (map (net_word net) (operands op)) ≡ true
operands_driven net (Const b) low = refl
operands_driven net (Copy n) low = and_from _ true (driven-net_word net n.0 (omega arith)) refl
operands_driven net (Not n) low = and_from _ true (driven-net_word net n.0 (omega arith)) refl
operands_driven net (And m n) low =
    and_from _ _ (driven-net_word net m.0 (omega arith)) (and_from _ true (driven-net_word net n.0 (omega arith)) refl)
operands_driven net (Or m n) low =
    and_from _ _ (driven-net_word net m.0 (omega arith)) (and_from _ true (driven-net_word net n.0 (omega arith)) refl)

-- the names that tables read
reads_driven : (net : Netlist) → IsWritable net → All (λ t. list_all (λ name. is_among name (all_names net)) t.inputs ≡ true) (net_tables net)
reads_driven net is =
    let p = λ (name : List ℕ). is_among name (all_names net) in
    let P = λ (t : Table). list_all p t.inputs ≡ true in
    let inputs = All-numbered P input_table 0 net.inputs (λ k d h. and_from (p (get_or net.inputs k d)) true (driven-name net k d h) refl) in
    let gates = All-numbered P (gate_table net) 0 net.gates (λ k d h. operands_driven net (get_or net.gates k d).op (operands_in_range net is k d h)) in
    let outputs = All-map P (output_table net) net.outputs
    (λ k d h. and_from (p (net_word net (get_or net.outputs k d).net.0)) true
    (driven-net_word net (get_or net.outputs k d).net.0 (is.is_net.outputs_in_range k d h)) refl) in
    let paused = All-cons P (copy_table (net_word net net.paused) paused_word) []
    (and_from (p (net_word net net.paused)) true (driven-net_word net net.paused is.is_net.paused_in_range) refl) (All-nil P) in
    All-append P (numbered input_table 0 net.inputs ++ numbered (gate_table net) 0 net.gates ++ map (output_table net) net.outputs)
    (copy_table (net_word net net.paused) paused_word ∷ [])
    (All-append P (numbered input_table 0 net.inputs ++ numbered (gate_table net) 0 net.gates) (map (output_table net) net.outputs)
    (All-append P (numbered input_table 0 net.inputs) (numbered (gate_table net) 0 net.gates) inputs gates) outputs)
    paused

used-driven : (net : Netlist) → IsWritable net → list_all (λ name. is_among name (all_names net)) (used_names (net_circuit net)) ≡ true
used-driven net is =
    let p = λ (name : List ℕ). is_among name (all_names net) in
    let sources = map-numbered (λ (l : CircuitLatch). l.source) (net_latch net) 0 net.latches in
    let shown = list_all-from_All p (output_words net)
    (λ k d h. driven-output net (get_or (output_words net) k d)
    (list_any_at (is_same_name (get_or (output_words net) k d)) (output_words net) k d h (same_name-self (get_or (output_words net) k d)))) in
    let kept : list_all p (map (λ (l : CircuitLatch). l.source) (numbered (net_latch net) 0 net.latches)) ≡ true = ap (list_all p) sources
    ∙ list_all-from_All p _ (All-numbered (λ name. p name ≡ true) (λ j (l : Latch). net_word net l.from.0) 0 net.latches
    (λ k d h. driven-net_word net (get_or net.latches k d).from.0 (is.is_net.latches_in_range k d h))) in
    list_all-parts p (output_words net) (map (λ (l : CircuitLatch). l.source) (numbered (net_latch net) 0 net.latches) ++ flat_map (λ (t : Table). t.inputs)
    (net_tables net)) shown
    (list_all-parts p (map (λ (l : CircuitLatch). l.source) (numbered (net_latch net) 0 net.latches)) (flat_map (λ (t : Table). t.inputs) (net_tables net)) kept
    (list_all-flat_map p (λ (t : Table). t.inputs) (net_tables net) (reads_driven net is)))

-- ---- the spelling

pub HasSpelling-net : (net : Netlist) → IsWritable net → HasSpelling (net_circuit net)
HasSpelling-net net is = record {
  name = is_word-name net.name is.is_net.name_fits;
  inputs = words-inputs net is;
  outputs = list_all-parts is_word (shown_words net) (paused_word ∷ []) (words-outputs net is) refl;
  latches = list_all-from_All latch_fits (numbered (net_latch net) 0 net.latches) (latches_fit net is);
  tables = list_all-from_All table_fits (net_tables net) (tables_fit net is);
  once = ap (all_differ is_same_name) (driven-net net) ∙ names-differ net is;
  driven = subst (λ names. list_all (λ name. is_among name names) (used_names (net_circuit net)) ≡ true) (sym (driven-net net)) (used-driven net is);
}

-- the text of a net is read as its circuit
pub reading-written : (net : Netlist) → IsWritable net → reading (written net) ≡ Ok (net_circuit net)
reading-written net is = reading-circuit_text (net_circuit net) (HasSpelling-net net is)
