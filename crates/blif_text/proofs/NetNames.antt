-- The names of a net's circuit: each is a word, no two are one, and each that is used is driven.
use Rattle.std.proofs.Common.{◌≡◌, ℕ, ◌+◌, ◌-◌, ◌<◌, ◌^◌, true, false, List, [], ◌∷◌, ◌++◌, length, map, get_or, refl, sym, ap, ◌∙◌, arith, zero-add}
use Rattle.std.proofs.Common.{Option, Some, None}
use Rattle.std.specs.Prelude.{option_and_then, IfSome, codes, if◌then◌else◌}
use Rattle.std.specs.List.{list_all, range_with_len}
use Rattle.std.proofs.lemmas.List.FromFn.{fill_by_all}
use Rattle.std.proofs.lemmas.Bool.{and_parts, and_from, lt-ltb, le-ltb}
use Rattle.std.proofs.lemmas.List.{length-append, get_or_append_left, get_or-append-add}
use Rattle.std.proofs.lemmas.List.Elements.{All-map}
use Rattle.std.proofs.lemmas.Option.{slice_get-get_or}
use Rattle.base_types.specs.declared.indices.WireId.{WireId}
use Rattle.net_ir.specs.declared.netlist.Op.TheVariants.{Const}
use Rattle.net_ir.specs.declared.netlist.Gate.{Gate}
use Rattle.net_ir.specs.declared.netlist.NetOut.{NetOut}
use Rattle.net_ir.specs.declared.netlist.Latch.{Latch}
use Rattle.base_types.specs.Names.{is_name}
use Rattle.net_ir.specs.Netlists.{Netlist, first_gate, net_count, wire_at}
use Rattle.blif_text.specs.Lines.{is_word_byte}
use Rattle.net_ir.specs.NameLists.{is_among}
use Rattle.blif_text.specs.Written.{output_word, input_word, latch_word, gate_word, net_word}
use Rattle.blif_text.proofs.WordBytes.{is_word, is_word-name, decimal_bytes}
use Rattle.net_ir.proofs.Exports.{list_all-parts, list_all-from_All, list_all-get_or, length-numbered, get_or-numbered, All-numbered, net_cases}
use Rattle.net_ir.specs.Numbered.{numbered}
use Rattle.net_ir.specs.Writing.{IsWritable}

-- the names of the outputs in the text
abbrev pub shown_words : Netlist → List (List ℕ)
shown_words net = map (λ o. output_word net.inputs o.name) net.outputs

-- ---- the name of a net, by its kind

net_word-input : (net : Netlist) (n : ℕ) → n < length net.inputs → net_word net n ≡ input_word n
net_word-input net n h = rw (lt-ltb n (length net.inputs) h) refl

net_word-latch : (net : Netlist) (j : ℕ) → j < length net.latches → net_word net (length net.inputs + j) ≡ latch_word j
net_word-latch net j h =
    let e : length net.inputs + j - length net.inputs ≡ j = omega arith in
    rw (
      le-ltb (length net.inputs + j) (length net.inputs) (omega arith),
      lt-ltb (length net.inputs + j) (length net.inputs + length net.latches)
          (omega arith),
    ) (ap latch_word e)

net_word-gate : (net : Netlist) (k : ℕ) (d : Gate) → k < length net.gates → net_word net (first_gate net + k) ≡ gate_word k (get_or net.gates k d).wire
net_word-gate net k d h =
    let e : first_gate net + k - first_gate net ≡ k = omega arith in
    rw (le-ltb (first_gate net + k) (length net.inputs) (omega arith), le-ltb (first_gate net + k) (first_gate net) (omega arith))
    (ap (λ i. gate_word i (wire_at net.gates i)) e ∙ ap (λ o. gate_word k (option_and_then (λ (g : Gate). g.wire) o)) (slice_get-get_or net.gates k d h))

-- the names of all nets, in order
abbrev pub input_words : Netlist → List (List ℕ)
input_words net = numbered (λ j name. input_word j) 0 net.inputs

abbrev pub latch_words : Netlist → List (List ℕ)
latch_words net = numbered (λ j latch. latch_word j) 0 net.latches

abbrev pub gate_words : Netlist → List (List ℕ)
gate_words net = numbered (λ k gate. gate_word k gate.wire) 0 net.gates

abbrev pub net_words : Netlist → List (List ℕ)
net_words net = input_words net ++ latch_words net ++ gate_words net

pub length-net_words : (net : Netlist) → length (net_words net) ≡ net_count net
length-net_words net =
    let i = length-numbered (λ j (name : List ℕ). input_word j) 0 net.inputs in
    let l = length-numbered (λ j (latch : Latch). latch_word j) 0 net.latches in
    let g = length-numbered (λ k (gate : Gate). gate_word k gate.wire) 0 net.gates in
    length-append (input_words net ++ latch_words net) (gate_words net) ∙ rw (length-append (input_words net) (latch_words net), i, l, g) refl

at-input : (net : Netlist) (n : ℕ) → n < length net.inputs → get_or (net_words net) n [] ≡ input_word n
at-input net n h =
    let i = length-numbered (λ j (name : List ℕ). input_word j) 0 net.inputs in
    let il = length-append (input_words net) (latch_words net) in
    get_or_append_left (input_words net ++ latch_words net) (gate_words net) [] n (omega arith)
    ∙ get_or_append_left (input_words net) (latch_words net) [] n (omega arith)
    ∙ get_or-numbered (λ j (name : List ℕ). input_word j) 0 net.inputs n [] [] h ∙ ap input_word (zero-add n)

at-latch : (net : Netlist) (j : ℕ) → j < length net.latches → get_or (net_words net) (length net.inputs + j) [] ≡ latch_word j
at-latch net j h =
    let i = length-numbered (λ m (name : List ℕ). input_word m) 0 net.inputs in
    let l = length-numbered (λ m (latch : Latch). latch_word m) 0 net.latches in
    let il = length-append (input_words net) (latch_words net) in
    let same : length net.inputs + j ≡ length (input_words net) + j = ap (λ m. m + j) (sym i) in
    let any_latch : Latch = record { init = false; from = record { 0 = 0 } } in
    get_or_append_left (input_words net ++ latch_words net) (gate_words net) [] (length net.inputs + j) (omega arith)
    ∙ ap (λ m. get_or (input_words net ++ latch_words net) m []) same
    ∙ get_or-append-add (input_words net) (latch_words net) j []
    ∙ get_or-numbered (λ m (latch : Latch). latch_word m) 0 net.latches j [] any_latch h ∙ ap latch_word (zero-add j)

pub at-gate : (net : Netlist) (k : ℕ) (d : Gate) → k < length net.gates
    → get_or (net_words net) (first_gate net + k) [] ≡ gate_word k (get_or net.gates k d).wire
at-gate net k d h =
    let i = length-numbered (λ m (name : List ℕ). input_word m) 0 net.inputs in
    let l = length-numbered (λ m (latch : Latch). latch_word m) 0 net.latches in
    let il : length (input_words net ++ latch_words net) ≡ first_gate net = length-append (input_words net) (latch_words net) ∙ rw (i, l) refl in
    ap (λ m. get_or (net_words net) m []) (ap (λ m. m + k) (sym il))
    ∙ get_or-append-add (input_words net ++ latch_words net) (gate_words net) k []
    ∙ get_or-numbered (λ m (gate : Gate). gate_word m gate.wire) 0 net.gates k [] d h
    ∙ ap (λ m. gate_word m (get_or net.gates k d).wire) (zero-add k)

pub net_word-at : (net : Netlist) (n : ℕ) → n < net_count net → net_word net n ≡ get_or (net_words net) n []
net_word-at net n h =
    let any_gate : Gate = record { op = Const false; wire = None } in
    net_cases net n h
    (λ low. net_word-input net n low ∙ sym (at-input net n low))
    (λ j low e. ap (net_word net) e ∙ net_word-latch net j low ∙ sym (at-latch net j low) ∙ ap (λ m. get_or (net_words net) m []) (sym e))
    (λ k low e. ap (net_word net) e ∙ net_word-gate net k any_gate low ∙ sym (at-gate net k any_gate low) ∙ ap (λ m. get_or (net_words net) m []) (sym e))

-- the names of the nets, by their numbers
pub net_words-numbers : (net : Netlist) → net_words net ≡ map (net_word net) (range_with_len 0 (net_count net))
net_words-numbers net =
    fill_by_all (net_word net) (net_words net) (net_count net) [] (length-net_words net) (λ k h. sym (net_word-at net k h))

-- ---- each name is a word

pub is_word-gate : (k : ℕ) (wire : Option WireId) → k < 2 ^ 64 → IfSome wire (λ w. w.0 < 2 ^ 32) → is_word (gate_word k wire) ≡ true
is_word-gate k None small fits = decimal_bytes k small
is_word-gate k (Some wire) small fits = decimal_bytes wire.0 (omega (arith, fits))

pub words-inputs : (net : Netlist) → IsWritable net → list_all is_word net.inputs ≡ true
words-inputs net is = list_all-from_All is_word net.inputs (λ k d h. is_word-name (get_or net.inputs k d) (is.is_net.input_names_fit k d h))

is_word-marked : (name : List ℕ) → is_word name ≡ true → is_word (name ++ codes ".out") ≡ true
is_word-marked [] fits = refl
is_word-marked (c ∷ cs) fits =
    let parts = and_parts (is_word_byte c) (list_all is_word_byte cs) fits in
    and_from (is_word_byte c) (list_all is_word_byte (cs ++ codes ".out")) parts.0 (list_all-parts is_word_byte cs (codes ".out") parts.1 refl)

-- the name of an output, with `.out` behind it or not
pub is_word-output : (inputs : List (List ℕ)) (name : List ℕ) → is_name name ≡ true → is_word (output_word inputs name) ≡ true
is_word-output inputs name fits = elim (is_among name inputs) as (λ shared. is_word (if shared then name ++ codes ".out" else name) ≡ true)
    [ true ↦ is_word-marked name (is_word-name name fits) | false ↦ is_word-name name fits ]

pub words-outputs : (net : Netlist) → IsWritable net → list_all is_word (shown_words net) ≡ true
words-outputs net is = list_all-from_All is_word (shown_words net)
    (All-map (λ n. is_word n ≡ true) (λ (o : NetOut). output_word net.inputs o.name) net.outputs
    (λ k d h. is_word-output net.inputs (get_or net.outputs k d).name (is.is_net.output_names_fit k d h)))

pub words-input_words : (net : Netlist) → IsWritable net → list_all is_word (input_words net) ≡ true
words-input_words net is = list_all-from_All is_word (input_words net)
    (All-numbered (λ w. is_word w ≡ true) (λ j (name : List ℕ). input_word j) 0 net.inputs
    (λ k d h. let few = is.is_net.numbered in decimal_bytes (0 + k) (omega arith)))

pub words-latch_words : (net : Netlist) → IsWritable net → list_all is_word (latch_words net) ≡ true
words-latch_words net is = list_all-from_All is_word (latch_words net)
    (All-numbered (λ w. is_word w ≡ true) (λ j (latch : Latch). latch_word j) 0 net.latches
    (λ k d h. let few = is.is_net.numbered in decimal_bytes (0 + k) (omega arith)))

pub words-gate_words : (net : Netlist) → IsWritable net → list_all is_word (gate_words net) ≡ true
words-gate_words net is = list_all-from_All is_word (gate_words net)
    (All-numbered (λ w. is_word w ≡ true) (λ k (gate : Gate). gate_word k gate.wire) 0 net.gates
    (λ k d h. let few = is.is_net.numbered in is_word-gate (0 + k) (get_or net.gates k d).wire (omega arith) (is.wires_fit k d h)))

pub is_word-net_word : (net : Netlist) → IsWritable net → (n : ℕ) → n < net_count net → is_word (net_word net n) ≡ true
is_word-net_word net is n h =
    let all = list_all-parts is_word (input_words net ++ latch_words net) (gate_words net)
    (list_all-parts is_word (input_words net) (latch_words net) (words-input_words net is) (words-latch_words net is)) (words-gate_words net is) in
    let len = length-net_words net in
    ap is_word (net_word-at net n h) ∙ list_all-get_or is_word (net_words net) n [] (omega arith) all
