-- The length of a net's text: at most a number of bytes for each gate and each latch, and for each name of the interface twice its length and a number more.
use Rattle.std.proofs.Common.{◌≡◌, ℕ, ◌+◌, ◌*◌, ◌^◌, ◌<◌, ◌≤◌, suc, Bool, true, false, List, [], ◌∷◌, ◌++◌, length, map, get_or, Option, Some, None, sym, ap}
use Rattle.std.proofs.Common.{◌∙◌, subst, arith, length-append, All}
use Rattle.std.specs.Prelude.{IfSome, codes, decimal, flat_map}
use Rattle.std.specs.List.{sum_by}
use Rattle.std.proofs.lemmas.Grind.{flat_map-append}
use Rattle.std.proofs.lemmas.List.Concat.{length-flat_map}
use Rattle.std.proofs.lemmas.List.Sums.{sum_by-cons, sum_by-le}
use Rattle.base_facts.proofs.Lists.{short-decimal}
use Rattle.base_types.specs.declared.indices.WireId.{WireId}
use Rattle.net_ir.specs.declared.netlist.Op.{Op}
use Rattle.net_ir.specs.declared.netlist.Op.TheVariants as ops
use Rattle.net_ir.specs.declared.netlist.Gate.{Gate}
use Rattle.net_ir.specs.declared.netlist.Latch.{Latch}
use Rattle.net_ir.specs.declared.netlist.NetOut.{NetOut}
use Rattle.net_ir.specs.Gates.{operand_end}
use Rattle.net_ir.specs.Netlists.{Netlist, net_count, output_names}
use Rattle.net_ir.specs.Numbered.{numbered}
use Rattle.net_ir.specs.Writing.{IsWritable}
use Rattle.net_ir.proofs.Exports.{length-numbered, All-numbered, any_gate, net_cases}
use Rattle.csub_text.specs.Trees.{Expr, Name}
use Rattle.csub_text.specs.Written.{input_name, state_name, gate_name, next_name, answer_name, net_name, input_variable, output_variable, net_state, op_expr}
use Rattle.csub_text.specs.Written.{input_assign, gate_assign, next_assign, output_assign, answer_assign, state_assign, gate_names, net_globals, net_locals}
use Rattle.csub_text.specs.Written.{net_body, net_program, expr_text, line_end, state_line, declaration, assign_line, head_line, last_lines, written}
use Rattle.csub_text.proofs.NetNames.{input_names, next_names}
use Rattle.csub_text.proofs.NetRules.{net_name-input, net_name-state, net_name-gate}

-- ---- lines

length-declaration : (name : List ℕ) → length (declaration name) ≡ length name + 6
length-declaration name = omega (arith, length-append name line_end)

length-assign : (target : List ℕ) (value : Expr) →
    length (assign_line (record { target = target; value = value })) ≡ length target + length (expr_text value) + 5
length-assign target value = omega (arith, length-append target (codes " = " ++ (expr_text value ++ line_end)), length-append (expr_text value) line_end)

length-state : (name : List ℕ) (init : Bool) → length (state_line (record { name = name; init = init })) ≡ length name + 17
length-state name true = omega (arith, length-append name (codes " = " ++ (codes "1" ++ line_end)))
length-state name false = omega (arith, length-append name (codes " = " ++ (codes "0" ++ line_end)))

-- the lines of a numbered list
length-lines : {X Y : Type 0} (line : Y → List ℕ) (make : ℕ → X → Y) (xs : List X) (most : ℕ)
    → ((k : ℕ) (d : X) → k < length xs → length (line (make (0 + k) (get_or xs k d))) ≤ most) → length (flat_map line (numbered make 0 xs)) ≤ length xs * most
length-lines line make xs most each =
    subst (λ n. length (flat_map line (numbered make 0 xs)) ≤ n * most) (length-numbered make 0 xs)
    (subst (λ n. n ≤ length (numbered make 0 xs) * most) (sym (length-flat_map line (numbered make 0 xs)))
    (sum_by-le (λ y. length (line y)) most (numbered make 0 xs) (All-numbered (λ y. length (line y) ≤ most) make 0 xs each)))

-- ---- names of nets

short-gate : (k : ℕ) (wire : Option WireId) → k < 2 ^ 32 → IfSome wire (λ w. w.0 < 2 ^ 32) → length (gate_name k wire) ≤ 11
short-gate k None low fits = let few = short-decimal k low in omega arith
short-gate k (Some wire) low fits = let few = short-decimal wire.0 fits in omega arith

-- the expression of an operator, where the names are short
length-operator : (word : ℕ → List ℕ) (op : Op) (bound : ℕ) → ((n : ℕ) → n < bound → length (word n) ≤ 11) → operand_end op ≤ bound →
    length (expr_text (op_expr word op)) ≤ 25
length-operator word (ops.Const true) bound short within = omega arith
length-operator word (ops.Const false) bound short within = omega arith
length-operator word (ops.Copy n) bound short within = let first = short n.0 (omega arith) in omega arith
length-operator word (ops.Not n) bound short within = let first = short n.0 (omega arith) in omega arith
length-operator word (ops.And m n) bound short within =
    let first = short m.0 (omega arith) in
    let second = short n.0 (omega arith) in
    omega (arith, length-append (word m.0) (codes " & " ++ (word n.0 ++ [])), length-append (word n.0) [])
length-operator word (ops.Or m n) bound short within =
    let first = short m.0 (omega arith) in
    let second = short n.0 (omega arith) in
    omega (arith, length-append (word m.0) (codes " | " ++ (word n.0 ++ [])), length-append (word n.0) [])

abbrev IsShort : List ℕ → Type 0
IsShort name = length name ≤ 11

module _ (net : Netlist) (is : IsWritable net) where
  numbers : net_count net ≤ 2 ^ 32
  numbers = is.is_net.numbered

  short-name : (n : ℕ) → n < net_count net → length (net_name net n) ≤ 11
  short-name n low = net_cases net n low
      (λ h. subst IsShort (sym (net_name-input net n h)) (let few = short-decimal n (omega (arith, numbers)) in omega arith))
      (λ j h e. subst IsShort (sym (ap (net_name net) e ∙ net_name-state net j h)) (let few = short-decimal j (omega (arith, numbers)) in omega arith))
      (λ k h e. subst IsShort (sym (ap (net_name net) e ∙ net_name-gate net k any_gate h))
      (short-gate k (get_or net.gates k any_gate).wire (omega (arith, numbers)) (is.wires_fit k any_gate h)))

  short-numbered : (k : ℕ) → k < net_count net → length (decimal (0 + k)) ≤ 10
  short-numbered k low = short-decimal (0 + k) (omega (arith, numbers))

  -- ---- states and locals

  states-length : length (flat_map state_line (numbered net_state 0 net.latches)) ≤ length net.latches * 28
  states-length = length-lines state_line net_state net.latches 28 (λ k d h.
      let few = short-numbered k (omega arith) in omega (arith, length-state (state_name (0 + k)) (get_or net.latches k d).init))

  inputs-length : length (flat_map declaration (input_names net)) ≤ length net.inputs * 17
  inputs-length = length-lines declaration (λ j (name : List ℕ). input_name j) net.inputs 17 (λ k d h.
      let few = short-numbered k (omega arith) in omega (arith, length-declaration (input_name (0 + k))))

  gates-length : length (flat_map declaration (gate_names net)) ≤ length net.gates * 17
  gates-length = length-lines declaration (λ k (gate : Gate). gate_name k gate.wire) net.gates 17 (λ k d h.
      let few = short-gate (0 + k) (get_or net.gates k d).wire (omega (arith, numbers)) (is.wires_fit k d h) in
      omega (arith, length-declaration (gate_name (0 + k) (get_or net.gates k d).wire)))

  nexts-length : length (flat_map declaration (next_names net)) ≤ length net.latches * 17
  nexts-length = length-lines declaration (λ j (latch : Latch). next_name j) net.latches 17 (λ k d h.
      let few = short-numbered k (omega arith) in omega (arith, length-declaration (next_name (0 + k))))

  -- ---- assignments

  computed-length : length (flat_map assign_line (numbered (gate_assign net) 0 net.gates)) ≤ length net.gates * 41
  computed-length = length-lines assign_line (gate_assign net) net.gates 41 (λ k d h.
      let gate = get_or net.gates k d in
      let target = short-gate (0 + k) gate.wire (omega (arith, numbers)) (is.wires_fit k d h) in
      let lower = is.is_net.reads_lower k d h in
      let value = length-operator (net_name net) gate.op (net_count net) short-name (omega arith) in
      omega (arith, length-assign (gate_name (0 + k) gate.wire) (op_expr (net_name net) gate.op)))

  stored-length : length (flat_map assign_line (numbered (next_assign net) 0 net.latches)) ≤ length net.latches * 27
  stored-length = length-lines assign_line (next_assign net) net.latches 27 (λ k d h.
      let target = short-numbered k (omega arith) in
      let value = short-name (get_or net.latches k d).from.0 (is.is_net.latches_in_range k d h) in
      omega (arith, length-assign (next_name (0 + k)) (Name (net_name net (get_or net.latches k d).from.0))))

  set-length : length (flat_map assign_line (numbered state_assign 0 net.latches)) ≤ length net.latches * 27
  set-length = length-lines assign_line state_assign net.latches 27 (λ k d h.
      let few = short-numbered k (omega arith) in
      omega (arith, length-assign (state_name (0 + k)) (Name (next_name (0 + k)))))

-- the variables of the inputs, and what is assigned of them
given-length : (n : ℕ) (names : List (List ℕ)) → n + length names ≤ 2 ^ 32
    → length (flat_map declaration (map input_variable names)) + length (flat_map assign_line (numbered input_assign n names))
    ≤ sum_by (λ name. 2 * length name + 26) names
given-length n [] low = omega arith
given-length n (name ∷ names) low =
    let number = short-decimal n (omega arith) in
    let others = given-length (n + 1) names (omega arith) in
    omega (
      arith,
      length-declaration (input_variable name),
      length-append (declaration (input_variable name)) (flat_map declaration (map input_variable names)),
      length-assign (input_name n) (Name (input_variable name)),
      length-append (assign_line (input_assign n name)) (flat_map assign_line (numbered input_assign (n + 1) names)),
      sum_by-cons (λ (w : List ℕ). 2 * length w + 26) name names,
    )

-- the variables of the outputs, and what is assigned to them
shown-length : (net : Netlist) (outputs : List NetOut) → All (λ o. length (net_name net o.net.0) ≤ 11) outputs
    → length (flat_map declaration (map output_variable outputs)) + length (flat_map assign_line (map (output_assign net) outputs))
    ≤ sum_by (λ name. 2 * length name + 26) (map (λ o. o.name) outputs)
shown-length net [] short = omega arith
shown-length net (o ∷ outputs) short =
    let first : length (net_name net o.net.0) ≤ 11 = short 0 o (omega arith) in
    let others = shown-length net outputs (λ k d h. short (suc k) d (omega arith)) in
    omega (
      arith,
      length-declaration (output_variable o),
      length-append (declaration (output_variable o)) (flat_map declaration (map output_variable outputs)),
      length-assign (output_variable o) (Name (net_name net o.net.0)),
      length-append (assign_line (output_assign net o)) (flat_map assign_line (map (output_assign net) outputs)),
      sum_by-cons (λ (w : List ℕ). 2 * length w + 26) o.name (map (λ p. p.name) outputs),
    )

-- ---- the text

-- the lines of a list that is in parts
lines-append : {X : Type 0} (line : X → List ℕ) (xs ys : List X) → length (flat_map line (xs ++ ys)) ≡ length (flat_map line xs) + length (flat_map line ys)
lines-append line xs ys = ap (λ l. length l) (flat_map-append line xs ys) ∙ length-append (flat_map line xs) (flat_map line ys)

abbrev pub text_bound : Netlist → ℕ
text_bound net =
    length net.gates * 58 + length net.latches * 99 + length net.inputs * 17 + sum_by (λ name. 2 * length name + 26) net.inputs
    + sum_by (λ name. 2 * length name + 26) (output_names net) + 54

module _ (net : Netlist) (is : IsWritable net) where
  globals-length : length (flat_map declaration (net_globals net))
      ≡ length (flat_map declaration (map input_variable net.inputs)) + length (flat_map declaration (map output_variable net.outputs))
  globals-length = lines-append declaration (map input_variable net.inputs) (map output_variable net.outputs)

  locals-length : length (flat_map declaration (net_locals net)) ≤ length net.inputs * 17 + length net.gates * 17 + length net.latches * 17 + 7
  locals-length = omega (
    arith,
    lines-append declaration (input_names net) (gate_names net ++ (next_names net ++ answer_name ∷ [])),
    lines-append declaration (gate_names net) (next_names net ++ answer_name ∷ []),
    lines-append declaration (next_names net) (answer_name ∷ []),
    inputs-length net is,
    gates-length net is,
    nexts-length net is,
  )

  body-length : length (flat_map assign_line (net_body net))
      ≤ length (flat_map assign_line (numbered input_assign 0 net.inputs)) + length net.gates * 41 + length net.latches * 54
      + length (flat_map assign_line (map (output_assign net) net.outputs)) + 17
  body-length =
      let given = numbered input_assign 0 net.inputs in
      let computed = numbered (gate_assign net) 0 net.gates in
      let stored = numbered (next_assign net) 0 net.latches in
      let shown = map (output_assign net) net.outputs in
      let set = numbered state_assign 0 net.latches in
      let last = short-name net is net.paused is.is_net.paused_in_range in
      omega (
        arith,
        lines-append assign_line given (computed ++ (stored ++ (shown ++ ((answer_assign net ∷ []) ++ set)))),
        lines-append assign_line computed (stored ++ (shown ++ ((answer_assign net ∷ []) ++ set))),
        lines-append assign_line stored (shown ++ ((answer_assign net ∷ []) ++ set)),
        lines-append assign_line shown ((answer_assign net ∷ []) ++ set),
        lines-append assign_line (answer_assign net ∷ []) set,
        length-append (assign_line (answer_assign net)) [],
        length-assign answer_name (Name (net_name net net.paused)),
        computed-length net is,
        stored-length net is,
        set-length net is,
      )

  pub length-written : length (written net) ≤ text_bound net
  length-written =
      let p = net_program net in
      let last = last_lines p.answer in
      let body = flat_map assign_line p.body in
      let locals = flat_map declaration p.locals in
      let globals = flat_map declaration p.globals in
      let few = is.is_net.numbered in
      omega (
        arith,
        length-append (flat_map state_line p.states) (globals ++ (head_line ++ (locals ++ (body ++ last)))),
        length-append globals (head_line ++ (locals ++ (body ++ last))),
        length-append locals (body ++ last),
        length-append body last,
        states-length net is,
        globals-length,
        locals-length,
        body-length,
        given-length 0 net.inputs (omega (arith, few)),
        shown-length net net.outputs (λ k d h. short-name net is (get_or net.outputs k d).net.0 (is.is_net.outputs_in_range k d h)),
      )
