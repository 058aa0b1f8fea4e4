-- The length of a net's text: at most so many bytes for each gate and each latch, and for each name of the interface twice its length and so many more.
use Rattle.std.proofs.Common.{◌≡◌, ℕ, ◌+◌, ◌*◌, ◌^◌, ◌<◌, ◌≤◌, suc, Bool, true, false, List, [], ◌∷◌, ◌++◌, length, map, get_or, Option}
use Rattle.std.proofs.Common.{Some, None, sym, ◌∙◌, subst, arith, length-append, All}
use Rattle.std.specs.Prelude.{IfSome, codes, flat_map, if◌then◌else◌}
use Rattle.std.specs.List.{sum_by}
use Rattle.std.proofs.lemmas.List.{length-map}
use Rattle.std.proofs.lemmas.List.Concat.{length-flat_map}
use Rattle.std.proofs.lemmas.List.Elements.{All-append, All-map}
use Rattle.std.proofs.lemmas.List.Sums.{sum_by-append, sum_by-cons, sum_by_push, sum_by-le}
use Rattle.base_facts.proofs.Lists.{short-decimal, sum-flat_map}
use Rattle.base_types.specs.declared.indices.WireId.{WireId}
use Rattle.net_ir.specs.declared.netlist.Op.{Op}
use Rattle.net_ir.specs.declared.netlist.Op.TheVariants.{Const, Copy, Not, And, Or}
use Rattle.net_ir.specs.declared.netlist.Gate.{Gate}
use Rattle.net_ir.specs.declared.netlist.Latch.{Latch}
use Rattle.net_ir.specs.declared.netlist.NetOut.{NetOut}
use Rattle.net_ir.specs.Gates.{operand_end}
use Rattle.net_ir.specs.NameLists.{is_among}
use Rattle.net_ir.specs.Netlists.{Netlist, net_count, output_names}
use Rattle.net_ir.specs.Numbered.{numbered}
use Rattle.net_ir.specs.Writing.{IsWritable}
use Rattle.net_ir.proofs.Exports.{length-numbered, All-numbered}
use Rattle.blif_text.specs.Circuits.{Table}
use Rattle.blif_text.specs.Statements.{Cell, Statement, Model, Inputs, Outputs, Names, Row, End}
use Rattle.blif_text.specs.Statements as statements
use Rattle.blif_text.specs.Spelled.{line_text, spelled, inputs_statements, latch_statement, table_statements, head_statements, circuit_statements}
use Rattle.blif_text.specs.Written.{input_word, latch_word, gate_word, net_word, output_word, paused_word, operands, op_rows, copy_table, input_table}
use Rattle.blif_text.specs.Written.{gate_table, output_table, net_latch, net_circuit, written}
use Rattle.blif_text.proofs.NetNames.{input_words, latch_words, gate_words, length-net_words, net_word-at}

-- ---- lines

-- the bytes of words, each with the byte before it
abbrev words_length : List (List ℕ) → ℕ
words_length words = sum_by (λ w. length (32 ∷ w)) words

abbrev line_length : Statement → ℕ
line_length s = length (line_text (spelled s))

length-line : (word : List ℕ) (words : List (List ℕ)) → length (line_text (word ∷ words)) ≡ length word + words_length words + 1
length-line word words = omega (
  arith,
  length-append word (flat_map (λ w. 32 ∷ w) words ++ 10 ∷ []),
  length-append (flat_map (λ w. 32 ∷ w) words) (10 ∷ []),
  length-flat_map (λ w. 32 ∷ w) words,
)

length-names : (inputs : List (List ℕ)) (output : List ℕ) → line_length (Names inputs output) ≡ words_length inputs + length output + 8
length-names inputs output =
    omega (arith, length-line (codes ".names") (inputs ++ output ∷ []), sum_by_push (λ (w : List ℕ). length (32 ∷ w)) inputs output)

length-latch : (source target : List ℕ) (init : Bool) → line_length (statements.Latch source target init) ≡ length source + length target + 11
length-latch source target true = omega (arith, length-line (codes ".latch") (source ∷ target ∷ codes "1" ∷ []))
length-latch source target false = omega (arith, length-line (codes ".latch") (source ∷ target ∷ codes "0" ∷ []))

length-inputs : (names : List (List ℕ)) → sum_by line_length (inputs_statements names) ≤ words_length names + 8
length-inputs [] = omega arith
length-inputs (name ∷ names) = omega (arith, length-line (codes ".inputs") (name ∷ names))

-- ---- tables

abbrev table_length : Table → ℕ
table_length t = sum_by line_length (table_statements t)

length-copy : (source target : List ℕ) → table_length (copy_table source target) ≡ length source + length target + 13
length-copy source target = omega (arith, length-names (source ∷ []) target)

-- the table of an operator, where the names are short
length-operator : (word : ℕ → List ℕ) (output : List ℕ) (op : Op) (bound : ℕ) → ((n : ℕ) → n < bound → length (word n) ≤ 12) → operand_end op ≤ bound
    → length output ≤ 12 → table_length (record { inputs = map word (operands op); output = output; rows = op_rows op }) ≤ 56
length-operator word output (Const true) bound short within few = omega (arith, length-names [] output)
length-operator word output (Const false) bound short within few = omega (arith, length-names [] output)
length-operator word output (Copy n) bound short within few =
    let first = short n.0 (omega arith) in omega (arith, length-names (word n.0 ∷ []) output)
length-operator word output (Not n) bound short within few =
    let first = short n.0 (omega arith) in omega (arith, length-names (word n.0 ∷ []) output)
length-operator word output (And m n) bound short within few =
    let first = short m.0 (omega arith) in
    let second = short n.0 (omega arith) in omega (arith, length-names (word m.0 ∷ word n.0 ∷ []) output)
length-operator word output (Or m n) bound short within few =
    let first = short m.0 (omega arith) in
    let second = short n.0 (omega arith) in omega (arith, length-names (word m.0 ∷ word n.0 ∷ []) output)

-- ---- names of nets

short-gate : (k : ℕ) (wire : Option WireId) → k < 2 ^ 32 → IfSome wire (λ w. w.0 < 2 ^ 32) → length (gate_word k wire) ≤ 12
short-gate k None low fits = let few = short-decimal k low in omega arith
short-gate k (Some wire) low fits = let few = short-decimal wire.0 fits in omega arith

abbrev IsShort : List ℕ → Type 0
IsShort word = length word ≤ 12

module _ (net : Netlist) (is : IsWritable net) where
  numbers : net_count net ≤ 2 ^ 32
  numbers = is.is_net.numbered

  short-inputs : All IsShort (input_words net)
  short-inputs = All-numbered IsShort (λ j (name : List ℕ). input_word j) 0 net.inputs
      (λ k d h. let few = short-decimal (0 + k) (omega (arith, numbers)) in omega arith)

  short-latches : All IsShort (latch_words net)
  short-latches = All-numbered IsShort (λ j (latch : Latch). latch_word j) 0 net.latches
      (λ k d h. let few = short-decimal (0 + k) (omega (arith, numbers)) in omega arith)

  short-gates : All IsShort (gate_words net)
  short-gates = All-numbered IsShort (λ k (gate : Gate). gate_word k gate.wire) 0 net.gates
      (λ k d h. short-gate (0 + k) (get_or net.gates k d).wire (omega (arith, numbers)) (is.wires_fit k d h))

  short-word : (n : ℕ) → n < net_count net → length (net_word net n) ≤ 12
  short-word n low =
      let all = All-append IsShort (input_words net ++ latch_words net) (gate_words net)
      (All-append IsShort (input_words net) (latch_words net) short-inputs short-latches) short-gates in
      subst IsShort (sym (net_word-at net n low)) (all n [] (omega (arith, length-net_words net)))

  -- ---- the parts of the text

  gates-length : sum_by table_length (numbered (gate_table net) 0 net.gates) ≤ length net.gates * 56
  gates-length = subst (λ n. sum_by table_length (numbered (gate_table net) 0 net.gates) ≤ n * 56) (length-numbered (gate_table net) 0 net.gates)
      (sum_by-le table_length 56 (numbered (gate_table net) 0 net.gates)
      (All-numbered (λ t. table_length t ≤ 56) (gate_table net) 0 net.gates (λ k d h.
      let few = is.is_net.reads_lower k d h in
      length-operator (net_word net) (gate_word (0 + k) (get_or net.gates k d).wire) (get_or net.gates k d).op (net_count net) short-word (omega arith)
      (short-gate (0 + k) (get_or net.gates k d).wire (omega (arith, numbers)) (is.wires_fit k d h)))))

  latches-length : sum_by line_length (map latch_statement (numbered (net_latch net) 0 net.latches)) ≤ length net.latches * 35
  latches-length = subst (λ n. sum_by line_length (map latch_statement (numbered (net_latch net) 0 net.latches)) ≤ n * 35)
      (length-map (numbered (net_latch net) 0 net.latches) latch_statement ∙ length-numbered (net_latch net) 0 net.latches)
      (sum_by-le line_length 35 (map latch_statement (numbered (net_latch net) 0 net.latches))
      (All-map (λ s. line_length s ≤ 35) latch_statement (numbered (net_latch net) 0 net.latches)
      (All-numbered (λ l. line_length (latch_statement l) ≤ 35) (net_latch net) 0 net.latches (λ k d h.
      let source = short-word (get_or net.latches k d).from.0 (is.is_net.latches_in_range k d h) in
      let target = short-decimal (0 + k) (omega (arith, numbers)) in
      omega (arith, length-latch (net_word net (get_or net.latches k d).from.0) (latch_word (0 + k)) (get_or net.latches k d).init)))))

-- the names of the inputs, and their tables
inputs-length : (n : ℕ) (names : List (List ℕ)) → n + length names ≤ 2 ^ 32
    → words_length names + sum_by table_length (numbered input_table n names) ≤ sum_by (λ name. 2 * length name + 26) names
inputs-length n [] low = omega arith
inputs-length n (name ∷ names) low =
    let number = short-decimal n (omega arith) in
    let others = inputs-length (n + 1) names (omega arith) in
    omega (
      arith,
      length-copy name (input_word n),
      sum_by-cons (λ (w : List ℕ). length (32 ∷ w)) name names,
      sum_by-cons table_length (input_table n name) (numbered input_table (n + 1) names),
      sum_by-cons (λ (w : List ℕ). 2 * length w + 26) name names,
    )

length-output : (inputs : List (List ℕ)) (name : List ℕ) → length (output_word inputs name) ≤ length name + 4
length-output inputs name = by (is_among name inputs)
  where
    by : (shared : Bool) → length (if shared then name ++ codes ".out" else name) ≤ length name + 4
    by true = omega (arith, length-append name (codes ".out"))
    by false = omega arith

-- the names of the outputs, and their tables
outputs-length : (net : Netlist) (outputs : List NetOut) → All (λ o. length (net_word net o.net.0) ≤ 12) outputs
    → words_length (map (λ o. output_word net.inputs o.name) outputs) + sum_by table_length (map (output_table net) outputs)
    ≤ sum_by (λ name. 2 * length name + 34) (map (λ o. o.name) outputs)
outputs-length net [] short = omega arith
outputs-length net (o ∷ outputs) short =
    let first : length (net_word net o.net.0) ≤ 12 = short 0 o (omega arith) in
    let others = outputs-length net outputs (λ k d h. short (suc k) d (omega arith)) in
    omega (
      arith,
      length-output net.inputs o.name,
      length-copy (net_word net o.net.0) (output_word net.inputs o.name),
      sum_by-cons (λ (w : List ℕ). length (32 ∷ w)) (output_word net.inputs o.name) (map (λ p. output_word net.inputs p.name) outputs),
      sum_by-cons table_length (output_table net o) (map (output_table net) outputs),
      sum_by-cons (λ (w : List ℕ). 2 * length w + 34) o.name (map (λ p. p.name) outputs),
    )

-- ---- the text

abbrev pub text_bound : Netlist → ℕ
text_bound net =
    length net.gates * 56 + length net.latches * 35 + sum_by (λ name. 2 * length name + 26) net.inputs
    + sum_by (λ name. 2 * length name + 34) (output_names net) + length net.name + 70

pub length-written : (net : Netlist) → IsWritable net → length (written net) ≤ text_bound net
length-written net is =
    let c = net_circuit net in
    let shown = map (λ (o : NetOut). output_word net.inputs o.name) net.outputs in
    let latches = map latch_statement c.latches in
    let tables = flat_map table_statements c.tables in
    let paused = copy_table (net_word net net.paused) paused_word in
    let few = is.is_net.numbered in
    let outputs = outputs-length net net.outputs (λ k d h. short-word net is (get_or net.outputs k d).net.0 (is.is_net.outputs_in_range k d h)) in
    let inputs = inputs-length 0 net.inputs (omega (arith, few)) in
    let last = short-word net is net.paused is.is_net.paused_in_range in
    omega (
      arith,
      length-flat_map (λ s. line_text (spelled s)) (circuit_statements c),
      sum_by-append line_length (head_statements c ++ latches ++ tables) (End ∷ []),
      sum_by-append line_length (head_statements c ++ latches) tables,
      sum_by-append line_length (head_statements c) latches,
      sum_by-append line_length ((Model net.name ∷ []) ++ inputs_statements net.inputs) (Outputs c.outputs ∷ []),
      sum_by-append line_length (Model net.name ∷ []) (inputs_statements net.inputs),
      length-line (codes ".model") (net.name ∷ []),
      length-inputs net.inputs,
      length-line (codes ".outputs") c.outputs,
      sum_by_push (λ (w : List ℕ). length (32 ∷ w)) shown paused_word,
      latches-length net is,
      sum-flat_map line_length table_statements c.tables,
      sum_by-append table_length (numbered input_table 0 net.inputs ++ numbered (gate_table net) 0 net.gates ++ map (output_table net) net.outputs)
          (paused ∷ []),
      sum_by-append table_length (numbered input_table 0 net.inputs ++ numbered (gate_table net) 0 net.gates) (map (output_table net) net.outputs),
      sum_by-append table_length (numbered input_table 0 net.inputs) (numbered (gate_table net) 0 net.gates),
      gates-length net is,
      length-copy (net_word net net.paused) paused_word,
    )
