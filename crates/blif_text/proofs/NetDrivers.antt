-- The names that a net's circuit drives: no two are one.
use Rattle.std.proofs.Common.{◌≡◌, ◌≢◌, ℕ, ◌+◌, Bool, true, false, not, ◌==◌, ◌||◌, List, [], ◌∷◌, ◌++◌, map, get_or, refl, sym, ap}
use Rattle.std.proofs.Common.{◌∙◌, arith, Option, Some, None, IsTrue, All}
use Rattle.std.specs.Prelude.{codes, if◌then◌else◌}
use Rattle.std.specs.List.{list_all, list_any}
use lib.Pointwise.{bytes_decides}
use Rattle.std.proofs.lemmas.List.Folds.{list_all-append}
use Rattle.std.proofs.lemmas.Bool.{both_ways, and_parts, or_parts, and_from, or_from, or_left, not-true, not_from_false, ne_eqb}
use Rattle.std.proofs.Math.Bool.{and-false}
use Rattle.std.proofs.lemmas.List.{map-append, append_cancel_right}
use Rattle.std.proofs.lemmas.List.Elements.{All-tail, All-map}
use Rattle.base_types.specs.declared.indices.WireId.{WireId}
use Rattle.net_ir.specs.declared.netlist.Gate.{Gate}
use Rattle.net_ir.specs.declared.netlist.NetOut.{NetOut}
use Rattle.net_ir.specs.declared.netlist.Latch.{Latch}
use Rattle.base_types.specs.Distinct.{all_differ}
use Rattle.base_types.specs.Names.{is_letter, is_digit, is_name, is_name_byte, is_same_name}
use Rattle.net_ir.specs.Netlists.{Netlist}
use Rattle.net_ir.specs.NameLists.{is_among}
use Rattle.blif_text.specs.Circuits.{CircuitLatch, Table}
use Rattle.blif_text.specs.Runs.{driven_names}
use Rattle.blif_text.specs.Written.{output_word, input_word, latch_word, gate_word, net_word, paused_word, net_latch, copy_table, input_table}
use Rattle.blif_text.specs.Written.{gate_table, output_table, net_tables, net_circuit}
use Rattle.net_ir.proofs.Exports.{none_shared-front, none_shared-nil, list_all-from_All, All-numbered, map-numbered, Apart, TellsGates, apart-by, apart-left}
use Rattle.net_ir.proofs.Exports.{apart-right, differ, differ-decimal, gates-differ, joined-differ, numbered-differ}
use Rattle.blif_text.proofs.NetNames.{shown_words, input_words, latch_words, gate_words}
use Rattle.net_ir.specs.Numbered.{numbered}
use Rattle.net_ir.specs.Writing.{IsWritable}

-- ---- the second letter tells the kinds of names apart

-- the byte behind `_`, or 0 where a name does not begin with `_`
abbrev mark : List ℕ → ℕ
mark [] = 0
mark (c ∷ []) = 0
mark (c ∷ d ∷ cs) = if c == 95 then d else 0

mark-name : (name : List ℕ) → is_name name ≡ true → mark name ≡ 0
mark-name [] fits = refl
mark-name (c ∷ []) fits = refl
mark-name (c ∷ d ∷ cs) fits =
    let parts = and_parts (is_letter c) (list_all is_name_byte (d ∷ cs)) fits in
    rw (ne_eqb c 95 (λ e. both_ways (is_letter c) (ap is_letter e) parts.0)) refl

marks-inputs : (net : Netlist) → IsWritable net → (p : ℕ → Bool) → p 0 ≡ true → list_all (λ x. p (mark x)) net.inputs ≡ true
marks-inputs net is p holds = list_all-from_All (λ x. p (mark x)) net.inputs
    (λ k d h. ap p (mark-name (get_or net.inputs k d) (is.is_net.input_names_fit k d h)) ∙ holds)

-- `.out` behind a name leaves its second letter unmarked
mark-marked : (name : List ℕ) → is_name name ≡ true → mark (name ++ codes ".out") ≡ 0
mark-marked [] fits = refl
mark-marked (c ∷ []) fits =
    let parts = and_parts (is_letter c) true fits in
    rw (ne_eqb c 95 (λ e. both_ways (is_letter c) (ap is_letter e) parts.0)) refl
mark-marked (c ∷ d ∷ cs) fits = mark-name (c ∷ d ∷ cs) fits

mark-output : (inputs : List (List ℕ)) (name : List ℕ) → is_name name ≡ true → mark (output_word inputs name) ≡ 0
mark-output inputs name fits = elim (is_among name inputs) as (λ shared. mark (if shared then name ++ codes ".out" else name) ≡ 0)
    [ true ↦ mark-marked name fits | false ↦ mark-name name fits ]

marks-outputs : (net : Netlist) → IsWritable net → (p : ℕ → Bool) → p 0 ≡ true → list_all (λ x. p (mark x)) (shown_words net) ≡ true
marks-outputs net is p holds = list_all-from_All (λ x. p (mark x)) (shown_words net)
    (All-map (λ x. p (mark x) ≡ true) (λ (o : NetOut). output_word net.inputs o.name) net.outputs
    (λ k d h. ap p (mark-output net.inputs (get_or net.outputs k d).name (is.is_net.output_names_fit k d h)) ∙ holds))

marks-input_words : (net : Netlist) (p : ℕ → Bool) → p 105 ≡ true → list_all (λ x. p (mark x)) (input_words net) ≡ true
marks-input_words net p holds = list_all-from_All (λ x. p (mark x)) (input_words net)
    (All-numbered (λ x. p (mark x) ≡ true) (λ j (name : List ℕ). input_word j) 0 net.inputs (λ k d h. holds))

marks-latch_words : (net : Netlist) (p : ℕ → Bool) → p 115 ≡ true → list_all (λ x. p (mark x)) (latch_words net) ≡ true
marks-latch_words net p holds = list_all-from_All (λ x. p (mark x)) (latch_words net)
    (All-numbered (λ x. p (mark x) ≡ true) (λ j (latch : Latch). latch_word j) 0 net.latches (λ k d h. holds))

mark-gate : (p : ℕ → Bool) → p 103 ≡ true → p 119 ≡ true → (k : ℕ) (wire : Option WireId) → p (mark (gate_word k wire)) ≡ true
mark-gate p g w k None = g
mark-gate p g w k (Some wire) = w

marks-gate_words : (net : Netlist) (p : ℕ → Bool) → p 103 ≡ true → p 119 ≡ true → list_all (λ x. p (mark x)) (gate_words net) ≡ true
marks-gate_words net p g w = list_all-from_All (λ x. p (mark x)) (gate_words net)
    (All-numbered (λ x. p (mark x) ≡ true) (λ k (gate : Gate). gate_word k gate.wire) 0 net.gates
    (λ k d h. mark-gate p g w (0 + k) (get_or net.gates k d).wire))

-- ---- within one kind the numbers differ

-- the names of gates, by their numbers or by their wires
tells-gates : TellsGates gate_word
tells-gates = record { numbers = λ m n a b ne. differ-decimal m n a b ne; kinds = λ m n v. refl; wires = λ m n u v a b ne. differ-decimal u.0 v.0 a b ne }

differ-inputs : (net : Netlist) → IsWritable net → all_differ is_same_name (input_words net) ≡ true
differ-inputs net is =
    let few = is.is_net.numbered in numbered-differ input_word differ-decimal 0 net.inputs (omega arith)

differ-latches : (net : Netlist) → IsWritable net → all_differ is_same_name (latch_words net) ≡ true
differ-latches net is =
    let few = is.is_net.numbered in numbered-differ latch_word differ-decimal 0 net.latches (omega arith)

differ-gates : (net : Netlist) → IsWritable net → all_differ is_same_name (gate_words net) ≡ true
differ-gates net is = gates-differ gate_word tells-gates net is

-- ---- the names of outputs

-- `.out` behind a name makes another than each name without a `.`
no_name_is_marked : (x y : List ℕ) → is_name y ≡ true → (x ++ codes ".out" ≢ y)
no_name_is_marked x [] fits same = both_ways false refl fits
no_name_is_marked x (c ∷ cs) fits same =
    let parts = and_parts (is_letter c) (list_all is_name_byte cs) fits in
    let all : list_all is_name_byte (c ∷ cs) ≡ true = and_from (is_name_byte c) (list_all is_name_byte cs)
    (or_left (is_letter c || is_digit c) (c == 95) (or_left (is_letter c) (is_digit c) parts.0)) parts.1 in
    let marked : list_all is_name_byte (x ++ codes ".out") ≡ false = list_all-append is_name_byte x (codes ".out") ∙ and-false (list_all is_name_byte x) in
    both_ways (list_all is_name_byte (c ∷ cs)) (ap (list_all is_name_byte) (sym same) ∙ marked) all

-- names that differ are written as words that differ
words-tell : (inputs : List (List ℕ)) (x y : List ℕ) → is_name x ≡ true → is_name y ≡ true → is_same_name x y ≡ false
    → is_same_name (output_word inputs x) (output_word inputs y) ≡ false
words-tell inputs x y x_fits y_fits apart =
    let ne : x ≢ y = λ e. both_ways (is_same_name x y) apart ((bytes_decides x y).1 e) in
    elim (is_among x inputs) as (λ a. is_same_name (if a then x ++ codes ".out" else x) (output_word inputs y) ≡ false) [
      | true ↦ elim (is_among y inputs) as (λ b. is_same_name (x ++ codes ".out") (if b then y ++ codes ".out" else y) ≡ false) [
        | true ↦ differ (x ++ codes ".out") (y ++ codes ".out") (λ e. ne (append_cancel_right x y (codes ".out") e))
        | false ↦ differ (x ++ codes ".out") y (no_name_is_marked x y y_fits)
      ]
      | false ↦ elim (is_among y inputs) as (λ b. is_same_name x (if b then y ++ codes ".out" else y) ≡ false) [
        | true ↦ differ x (y ++ codes ".out") (λ e. no_name_is_marked y x x_fits (sym e))
        | false ↦ apart
      ]
    ]

abbrev names_of : List NetOut → List (List ℕ)
names_of outputs = map (λ o. o.name) outputs

abbrev words_of : List (List ℕ) → List NetOut → List (List ℕ)
words_of inputs outputs = map (λ o. output_word inputs o.name) outputs

no_later_word : (inputs : List (List ℕ)) (x : List ℕ) (outputs : List NetOut) → is_name x ≡ true → All (λ o. IsTrue (is_name o.name)) outputs
    → list_any (is_same_name x) (names_of outputs) ≡ false → list_any (is_same_name (output_word inputs x)) (words_of inputs outputs) ≡ false
no_later_word inputs x [] fits all none = refl
no_later_word inputs x (o ∷ outputs) fits all none =
    let parts = or_parts (is_same_name x o.name) (list_any (is_same_name x) (names_of outputs)) none in
    or_from _ _ (words-tell inputs x o.name fits (all 0 o (omega arith)) parts.0)
    (no_later_word inputs x outputs fits (All-tail (λ (p : NetOut). IsTrue (is_name p.name)) o outputs all) parts.1)

words-differ : (inputs : List (List ℕ)) (outputs : List NetOut) → All (λ o. IsTrue (is_name o.name)) outputs
    → all_differ is_same_name (names_of outputs) ≡ true → all_differ is_same_name (words_of inputs outputs) ≡ true
words-differ inputs [] all differ = refl
words-differ inputs (o ∷ outputs) all differ =
    let parts = and_parts (not (list_any (is_same_name o.name) (names_of outputs))) (all_differ is_same_name (names_of outputs)) differ in
    let rest = All-tail (λ (p : NetOut). IsTrue (is_name p.name)) o outputs all in
    and_from (not (list_any (is_same_name (output_word inputs o.name)) (words_of inputs outputs))) (all_differ is_same_name (words_of inputs outputs))
    (not_from_false _ (no_later_word inputs o.name outputs (all 0 o (omega arith)) rest (not-true _ parts.0)))
    (words-differ inputs outputs rest parts.1)

-- no name of an input is the word of an output
no_input-marked : (inputs : List (List ℕ)) (name : List ℕ) → All (λ n. IsTrue (is_name n)) inputs → is_among (name ++ codes ".out") inputs ≡ false
no_input-marked [] name all = refl
no_input-marked (x ∷ inputs) name all =
    or_from _ _ (differ (name ++ codes ".out") x (no_name_is_marked name x (all 0 x (omega arith))))
    (no_input-marked inputs name (All-tail (λ n. IsTrue (is_name n)) x inputs all))

no_input-word : (inputs : List (List ℕ)) (name : List ℕ) → All (λ n. IsTrue (is_name n)) inputs → not (is_among (output_word inputs name) inputs) ≡ true
no_input-word inputs name all = go (is_among name inputs) refl
  where
    go : (shared : Bool) → is_among name inputs ≡ shared → not (is_among (if shared then name ++ codes ".out" else name) inputs) ≡ true
    go true e = not_from_false _ (no_input-marked inputs name all)
    go false e = not_from_false _ e

apart-each : (xs ys : List (List ℕ)) → list_all (λ y. not (is_among y xs)) ys ≡ true → Apart xs ys
apart-each xs [] none = none_shared-nil xs
apart-each xs (y ∷ ys) none =
    let parts = and_parts (not (is_among y xs)) (list_all (λ z. not (is_among z xs)) ys) none in
    none_shared-front xs ys y (not-true _ parts.0) (apart-each xs ys parts.1)

apart-words : (net : Netlist) → IsWritable net → Apart net.inputs (shown_words net)
apart-words net is = apart-each net.inputs (shown_words net) (list_all-from_All (λ y. not (is_among y net.inputs)) (shown_words net)
    (All-map (λ y. not (is_among y net.inputs) ≡ true) (λ (o : NetOut). output_word net.inputs o.name) net.outputs
    (λ k d h. no_input-word net.inputs (get_or net.outputs k d).name is.is_net.input_names_fit)))

-- ---- all names together

abbrev outputs_of : Netlist → List (List ℕ)
outputs_of net = shown_words net

-- the names that tables drive
abbrev pub table_names : Netlist → List (List ℕ)
table_names net = input_words net ++ gate_words net ++ outputs_of net ++ paused_word ∷ []

outputs-tables : (net : Netlist) (outputs : List NetOut) → map (λ (t : Table). t.output) (map (output_table net) outputs) ≡ words_of net.inputs outputs
outputs-tables net [] = refl
outputs-tables net (o ∷ outputs) = ap (λ l. output_word net.inputs o.name ∷ l) (outputs-tables net outputs)

pub driven-net : (net : Netlist) → driven_names (net_circuit net) ≡ net.inputs ++ (latch_words net ++ table_names net)
driven-net net =
    let inputs = numbered input_table 0 net.inputs in
    let gates = numbered (gate_table net) 0 net.gates in
    let outputs = map (output_table net) net.outputs in
    let paused = copy_table (net_word net net.paused) paused_word ∷ [] in
    let out = λ (t : Table). t.output in
    let tables : map out (net_tables net) ≡ table_names net =
    map-append out (inputs ++ gates ++ outputs) paused
    ∙ ap (λ l. l ++ paused_word ∷ []) (map-append out (inputs ++ gates) outputs ∙ rw (
      map-append out inputs gates,
      map-numbered out input_table 0 net.inputs,
      map-numbered out (gate_table net) 0 net.gates,
      outputs-tables net
          net.outputs,
    ) refl)
    in
    let targets = map-numbered (λ (l : CircuitLatch). l.target) (net_latch net) 0 net.latches in
    ap (λ l. net.inputs ++ (l ++ map out (net_tables net))) targets ∙ ap (λ l. net.inputs ++ (latch_words net ++ l)) tables

apart-tables : (net : Netlist) → IsWritable net → (xs : List (List ℕ)) → Apart xs (input_words net) → Apart xs (gate_words net) → Apart xs (outputs_of net)
    → Apart xs (paused_word ∷ []) → Apart xs (table_names net)
apart-tables net is xs i g o p =
    apart-right xs (input_words net ++ gate_words net ++ outputs_of net) (paused_word ∷ [])
    (apart-right xs (input_words net ++ gate_words net) (outputs_of net) (apart-right xs (input_words net) (gate_words net) i g) o) p

-- the names that tables drive: inputs, gates, outputs and `_paused`
tables-differ : (net : Netlist) → IsWritable net → all_differ is_same_name (table_names net) ≡ true
tables-differ net is =
    let inputs = input_words net in
    let gates = gate_words net in
    let outputs = outputs_of net in
    let ig = apart-by mark (λ m. m == 105) inputs gates (marks-input_words net (λ m. m == 105) refl) (marks-gate_words net (λ m. not (m == 105)) refl refl) in
    let io = apart-by mark (λ m. m == 105) inputs outputs (marks-input_words net (λ m. m == 105) refl) (marks-outputs net is (λ m. not (m == 105)) refl) in
    let go = apart-by mark (λ m. m == 103 || m == 119) gates outputs (marks-gate_words net (λ m. m == 103 || m == 119) refl refl)
    (marks-outputs net is (λ m. not (m == 103 || m == 119)) refl) in
    let ip = apart-by mark (λ m. not (m == 112)) inputs (paused_word ∷ []) (marks-input_words net (λ m. not (m == 112)) refl) refl in
    let gp = apart-by mark (λ m. not (m == 112)) gates (paused_word ∷ []) (marks-gate_words net (λ m. not (m == 112)) refl refl) refl in
    let op = apart-by mark (λ m. not (m == 112)) outputs (paused_word ∷ []) (marks-outputs net is (λ m. not (m == 112)) refl) refl in
    let both = joined-differ inputs gates (differ-inputs net is) ig (differ-gates net is) in
    let three = joined-differ (inputs ++ gates) outputs both (apart-left inputs gates outputs io go)
    (words-differ net.inputs net.outputs is.is_net.output_names_fit is.is_net.outputs_differ) in
    joined-differ (inputs ++ gates ++ outputs) (paused_word ∷ []) three
    (apart-left (inputs ++ gates) outputs (paused_word ∷ []) (apart-left inputs gates (paused_word ∷ []) ip gp) op) refl

pub names-differ : (net : Netlist) → IsWritable net → all_differ is_same_name (net.inputs ++ (latch_words net ++ table_names net)) ≡ true
names-differ net is =
    let latches = latch_words net in
    let lt = apart-tables net is latches
    (apart-by mark (λ m. m == 115) latches (input_words net) (marks-latch_words net (λ m. m == 115) refl) (marks-input_words net (λ m. not (m == 115)) refl))
    (apart-by mark (λ m. m == 115) latches (gate_words net) (marks-latch_words net (λ m. m == 115) refl) (marks-gate_words net (λ m. not (m == 115)) refl refl))
    (apart-by mark (λ m. m == 115) latches (outputs_of net) (marks-latch_words net (λ m. m == 115) refl) (marks-outputs net is (λ m. not (m == 115)) refl))
    (apart-by mark (λ m. m == 115) latches (paused_word ∷ []) (marks-latch_words net (λ m. m == 115) refl) refl)
    in
    let nt = apart-tables net is net.inputs
    (apart-by mark (λ m. m == 0) net.inputs (input_words net) (marks-inputs net is (λ m. m == 0) refl) (marks-input_words net (λ m. not (m == 0)) refl))
    (apart-by mark (λ m. m == 0) net.inputs (gate_words net) (marks-inputs net is (λ m. m == 0) refl) (marks-gate_words net (λ m. not (m == 0)) refl refl))
    (apart-words net is)
    (apart-by mark (λ m. m == 0) net.inputs (paused_word ∷ []) (marks-inputs net is (λ m. m == 0) refl) refl)
    in
    let nl = apart-by mark (λ m. m == 0) net.inputs latches (marks-inputs net is (λ m. m == 0) refl) (marks-latch_words net (λ m. not (m == 0)) refl) in
    joined-differ net.inputs (latches ++ table_names net) is.is_net.inputs_differ (apart-right net.inputs latches (table_names net) nl nt)
    (joined-differ latches (table_names net) (differ-latches net is) lt (tables-differ net is))
