-- Inner: one instant of a net's module is one of the module that vlog_text has of the net, under other names.
use Rattle.std.proofs.Common.{◌≡◌, ℕ, ◌+◌, ◌<◌, ◌≤◌, Bool, List, [], ◌∷◌, ◌++◌, length, map, get_or, sym, ap, ◌∙◌, arith, append_assoc}
use Rattle.std.specs.List.{AllByRecursion}
use Rattle.std.proofs.lemmas.List.{map-append, length-append, length-map, get_or-map}
use Rattle.std.proofs.lemmas.List.Elements.{recursion_from_All, All-from_recursion, All-append, All-map, All-cons, All-nil}
use Rattle.base_facts.proofs.Lists.{all-split, all-unmapped, maps-at, same-parts}
use Rattle.net_ir.specs.declared.netlist.Gate.{Gate}
use Rattle.net_ir.specs.declared.netlist.Latch.{Latch}
use Rattle.net_ir.specs.declared.netlist.NetOut.{NetOut}
use Rattle.net_ir.specs.declared.netlist.Op.{Op}
use Rattle.net_ir.specs.Gates.{operand_end}
use Rattle.net_ir.specs.Netlists.{Netlist, first_gate, net_count}
use Rattle.net_ir.specs.Numbered.{numbered}
use Rattle.net_ir.specs.Writing.{IsWritable}
use Rattle.net_ir.proofs.Exports.{All-numbered, length-numbered, map-numbered, numbered-at, op_value-same}
use Rattle.net_expressions.specs.NetNames.{gate_name, gate_names, state_name}
use Rattle.net_expressions.specs.Operators.{op_expr}
use Rattle.net_expressions.specs.Trees.{Expr}
use Rattle.net_expressions.specs.Values.{value_of}
use Rattle.net_expressions.proofs.Exports.{numbered-same, op-expr-value, state_names}
use Rattle.vlog_text.specs.Machine.{IsInstant}
use Rattle.vlog_text.specs.Names.{paused_name}
use Rattle.vlog_text.specs.Trees.{Assign, Register}
use Rattle.vlog_text.specs.Written as plain
use Rattle.vlog_text.proofs.Exports.{input_words as plain_inputs, length-names, net_module}
use Rattle.vlog_text.proofs.Exports.{net_name-at, net_name-gate, net_names, output_words as plain_outputs}
use Rattle.vlog_reset.specs.Options.{ModuleOptions}
use Rattle.vlog_reset.specs.Written.{input_name, output_name, state_word, gate_word, input_words, output_words, state_words, gate_words, net_words, net_word}
use Rattle.vlog_reset.specs.Written.{net_register, gate_assign, output_assign, paused_assign, net_assigns, net_design}
use Rattle.vlog_reset.proofs.NetWords.{word-gate}

-- ---- valuations that agree

-- the first one gives the names of the module the values that the second one gives those of vlog_text's
pub record Agree (o : ModuleOptions) (net : Netlist) (v w : List ℕ → Bool) : Type 0 where
  pub inputs : map v (input_words o net) ≡ map w (plain_inputs net)
  pub states : map v (state_words net) ≡ map w (state_names net)
  pub gates : map v (gate_words net) ≡ map w (gate_names net)
  pub outputs : map v (output_words o net) ≡ map w (plain.net_outputs net)

pub length-words : (o : ModuleOptions) (net : Netlist) → length (net_words o net) ≡ net_count net
length-words o net = length-append (input_words o net) (state_words net ++ gate_words net)
    ∙ ap (λ n. length (input_words o net) + n) (length-append (state_words net) (gate_words net))
    ∙ rw (
      length-map net.inputs (input_name o),
      length-numbered (λ j (latch : Latch). state_word j) 0 net.latches,
      length-numbered (λ k (gate : Gate). gate_word k) 0 net.gates,
    ) (omega arith)

pub agree-nets : (o : ModuleOptions) (net : Netlist) (v w : List ℕ → Bool) → Agree o net v w → map v (net_words o net) ≡ map w (net_names net)
agree-nets o net v w agree =
    map-append v (input_words o net) (state_words net ++ gate_words net)
    ∙ ap (λ l. map v (input_words o net) ++ l) (map-append v (state_words net) (gate_words net))
    ∙ rw (agree.inputs, agree.states, agree.gates) (sym (append_assoc (map w (plain_inputs net)) (map w (state_names net)) (map w (gate_names net))))
    ∙ sym (map-append w (plain_inputs net ++ state_names net) (gate_names net)
    ∙ ap (λ l. l ++ map w (gate_names net)) (map-append w (plain_inputs net) (state_names net)))

-- of the names of a net
pub agree-net : (o : ModuleOptions) (net : Netlist) (v w : List ℕ → Bool) → Agree o net v w → (n : ℕ) → n < net_count net
    → v (net_word o net n) ≡ w (plain.net_name net n)
agree-net o net v w agree n h =
    let a = length-words o net in
    let b = length-names net in
    maps-at v w (net_words o net) (net_names net) n [] [] (agree-nets o net v w agree) (omega arith) (omega arith) ∙ ap w (sym (net_name-at net n h))

agree-gate : (o : ModuleOptions) (net : Netlist) (v w : List ℕ → Bool) → Agree o net v w → (k : ℕ) (d : Gate) → k < length net.gates
    → v (gate_word (0 + k)) ≡ w (gate_name (0 + k) (get_or net.gates k d).wire)
agree-gate o net v w agree k d h =
    let z : 0 + k ≡ k = omega arith in
    let n = first_gate net + k in
    ap (λ i. v (gate_word i)) z ∙ ap v (sym (word-gate o net n k (omega arith) h (omega arith))) ∙ agree-net o net v w agree n (omega arith)
    ∙ ap w (net_name-gate net k d h) ∙ ap (λ i. w (gate_name i (get_or net.gates k d).wire)) (sym z)

-- the outputs, and `paused` after them
record AgreeShown (o : ModuleOptions) (net : Netlist) (v w : List ℕ → Bool) : Type 0 where
  outputs : map v (map (output_name o) net.outputs) ≡ map w (plain_outputs net)
  paused : v paused_name ≡ w paused_name

agree-shown : (o : ModuleOptions) (net : Netlist) (v w : List ℕ → Bool) → Agree o net v w → AgreeShown o net v w
agree-shown o net v w agree =
    let a = length-map (map (output_name o) net.outputs) v ∙ length-map net.outputs (output_name o) in
    let b = length-map (plain_outputs net) w ∙ length-map net.outputs plain.output_name in
    let parts = same-parts (map v (map (output_name o) net.outputs)) (v paused_name ∷ []) (map w (plain_outputs net)) (w paused_name ∷ []) (omega arith)
    (sym (map-append v (map (output_name o) net.outputs) (paused_name ∷ [])) ∙ agree.outputs ∙ map-append w (plain_outputs net) (paused_name ∷ [])) in
    record { outputs = parts.0; paused = cc parts.1 }

agree-output : (o : ModuleOptions) (net : Netlist) (v w : List ℕ → Bool) → AgreeShown o net v w → (k : ℕ) (d : NetOut) → k < length net.outputs
    → v (output_name o (get_or net.outputs k d)) ≡ w (plain.output_name (get_or net.outputs k d))
agree-output o net v w agree k d h =
    let a = length-map net.outputs (output_name o) in
    let b = length-map net.outputs plain.output_name in
    ap v (sym (get_or-map (output_name o) net.outputs k d [] h))
    ∙ maps-at v w (map (output_name o) net.outputs) (plain_outputs net) k [] [] agree.outputs (omega arith) (omega arith)
    ∙ ap w (get_or-map plain.output_name net.outputs k d [] h)

-- what an operator makes of nets whose names agree
same-op : (u x : List ℕ → Bool) (p q : ℕ → List ℕ) (op : Op) (end : ℕ) → operand_end op ≤ end → ((n : ℕ) → n < end → u (p n) ≡ x (q n))
    → value_of u (op_expr p op) ≡ value_of x (op_expr q op)
same-op u x p q op end low same =
    op-expr-value u p op ∙ op_value-same (λ n. u (p n)) (λ n. x (q n)) op end low same ∙ sym (op-expr-value x q op)

-- ---- assignments

abbrev Met : (List ℕ → Bool) → Assign Expr → Type 0
Met v a = v a.target ≡ value_of v a.value

module _ (o : ModuleOptions) (net : Netlist) (is : IsWritable net) (v w : List ℕ → Bool) (agree : Agree o net v w) where
  abbrev nets : (n : ℕ) → n < net_count net → v (net_word o net n) ≡ w (plain.net_name net n)
  nets = agree-net o net v w agree

  low-nets : (k : ℕ) → k < length net.gates → (n : ℕ) → n < first_gate net + k → v (net_word o net n) ≡ w (plain.net_name net n)
  low-nets k h n below = nets n (omega arith)

  same-gate : (k : ℕ) (d : Gate) → k < length net.gates
      → value_of v (op_expr (net_word o net) (get_or net.gates k d).op) ≡ value_of w (op_expr (plain.net_name net) (get_or net.gates k d).op)
  same-gate k d h =
      same-op v w (net_word o net) (plain.net_name net) (get_or net.gates k d).op (first_gate net + k) (is.is_net.reads_lower k d h) (low-nets k h)

  abbrev shown : AgreeShown o net v w
  shown = agree-shown o net v w agree

  -- all assignments of the one module are met where those of the other are
  met-plainly : AllByRecursion (Met v) (net_assigns o net) → AllByRecursion (Met w) (plain.net_assigns net)
  met-plainly met =
      let gates = all-split (Met v) (numbered (gate_assign o net) 0 net.gates) (map (output_assign o net) net.outputs ++ paused_assign o net ∷ []) met in
      let others = all-split (Met v) (map (output_assign o net) net.outputs) (paused_assign o net ∷ []) gates.1 in
      let outputs = all-unmapped (Met v) (output_assign o net) net.outputs (All-from_recursion (Met v) (map (output_assign o net) net.outputs) others.0) in
      recursion_from_All (Met w) (plain.net_assigns net)
      (All-append (Met w) (numbered (plain.gate_assign net) 0 net.gates) (map (plain.output_assign net) net.outputs ++ plain.paused_assign net ∷ [])
      (All-numbered (Met w) (plain.gate_assign net) 0 net.gates (λ k d h.
      sym (agree-gate o net v w agree k d h) ∙ numbered-at (Met v) (gate_assign o net) 0 net.gates k d h gates.0 ∙ same-gate k d h))
      (All-append (Met w) (map (plain.output_assign net) net.outputs) (plain.paused_assign net ∷ [])
      (All-map (Met w) (plain.output_assign net) net.outputs (λ k d h.
      sym (agree-output o net v w shown k d h) ∙ outputs k d h ∙ nets (get_or net.outputs k d).net.0 (is.is_net.outputs_in_range k d h)))
      (All-cons (Met w) (plain.paused_assign net) [] (sym shown.paused ∙ others.1.0 ∙ nets net.paused is.is_net.paused_in_range) (All-nil (Met w)))))

  met-here : AllByRecursion (Met w) (plain.net_assigns net) → AllByRecursion (Met v) (net_assigns o net)
  met-here met =
      let gates = all-split (Met w) (numbered (plain.gate_assign net) 0 net.gates) (map (plain.output_assign net) net.outputs ++ plain.paused_assign net ∷ [])
      met in
      let others = all-split (Met w) (map (plain.output_assign net) net.outputs) (plain.paused_assign net ∷ []) gates.1 in
      let outputs = all-unmapped (Met w) (plain.output_assign net) net.outputs
      (All-from_recursion (Met w) (map (plain.output_assign net) net.outputs) others.0) in
      recursion_from_All (Met v) (net_assigns o net)
      (All-append (Met v) (numbered (gate_assign o net) 0 net.gates) (map (output_assign o net) net.outputs ++ paused_assign o net ∷ [])
      (All-numbered (Met v) (gate_assign o net) 0 net.gates (λ k d h.
      agree-gate o net v w agree k d h ∙ numbered-at (Met w) (plain.gate_assign net) 0 net.gates k d h gates.0 ∙ sym (same-gate k d h)))
      (All-append (Met v) (map (output_assign o net) net.outputs) (paused_assign o net ∷ [])
      (All-map (Met v) (output_assign o net) net.outputs (λ k d h.
      agree-output o net v w shown k d h ∙ outputs k d h ∙ sym (nets (get_or net.outputs k d).net.0 (is.is_net.outputs_in_range k d h))))
      (All-cons (Met v) (paused_assign o net) [] (shown.paused ∙ others.1.0 ∙ sym (nets net.paused is.is_net.paused_in_range)) (All-nil (Met v)))))

  -- ---- instants

  registers-here : map (λ (r : Register). v r.name) (net_design o net).registers ≡ map v (state_words net)
  registers-here = map-numbered (λ (r : Register). v r.name) (net_register o net) 0 net.latches
      ∙ sym (map-numbered v (λ j (x : Latch). state_word j) 0 net.latches)

  registers-plainly : map (λ (r : Register). w r.name) (net_module net).registers ≡ map w (state_names net)
  registers-plainly = map-numbered (λ (r : Register). w r.name) (plain.net_register net) 0 net.latches
      ∙ sym (map-numbered w (λ j (x : Latch). state_name j) 0 net.latches)

  pub instant-plainly : (latches inputs : List Bool) → IsInstant (net_design o net) latches inputs v → IsInstant (net_module net) latches inputs w
  instant-plainly latches inputs instant = record {
    inputs_given = sym agree.inputs ∙ instant.inputs_given;
    registers_kept = registers-plainly ∙ sym agree.states ∙ sym registers-here ∙ instant.registers_kept;
    assigns_met = met-plainly instant.assigns_met;
  }

  pub instant-here : (latches inputs : List Bool) → IsInstant (net_module net) latches inputs w → IsInstant (net_design o net) latches inputs v
  instant-here latches inputs instant = record {
    inputs_given = agree.inputs ∙ instant.inputs_given;
    registers_kept = registers-here ∙ agree.states ∙ sym registers-plainly ∙ instant.registers_kept;
    assigns_met = met-here instant.assigns_met;
  }

  -- what the registers get
  pub next-here : map (λ (r : Register). v r.from) (net_design o net).registers ≡ map (λ (r : Register). w r.from) (net_module net).registers
  next-here =
      map-numbered (λ (r : Register). v r.from) (net_register o net) 0 net.latches
      ∙ numbered-same (λ j (x : Latch). v (net_word o net x.from.0)) (λ j (x : Latch). w (plain.net_name net x.from.0)) 0 net.latches
      (λ k d h. nets (get_or net.latches k d).from.0 (is.is_net.latches_in_range k d h))
      ∙ sym (map-numbered (λ (r : Register). w r.from) (plain.net_register net) 0 net.latches)
