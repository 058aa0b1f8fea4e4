-- Inner: the text of a net describes the net's module.
use Rattle.std.proofs.Common.{◌≡◌, ℕ, ◌+◌, ◌<◌, ◌^◌, zero, suc, List, [], ◌∷◌, ◌++◌, map, get_or, refl, sym, ap, ◌∙◌, subst, arith, Option, Some, None, All}
use Rattle.std.specs.Prelude.{IfSome}
use Rattle.std.proofs.lemmas.List.Elements.{All-append, All-map, All-cons}
use Rattle.base_types.specs.declared.indices.WireId.{WireId}
use Rattle.net_ir.specs.declared.netlist.Gate.{Gate}
use Rattle.net_ir.specs.declared.netlist.Latch.{Latch}
use Rattle.net_ir.specs.Netlists.{Netlist, first_gate, net_count}
use Rattle.net_ir.specs.Writing.{IsWritable}
use Rattle.net_ir.proofs.Exports.{All-numbered, net_cases}
use Rattle.net_expressions.specs.NetNames.{state_name, gate_name, gate_names}
use Rattle.net_expressions.specs.Trees.{Expr}
use Rattle.net_expressions.proofs.Exports.{state_names, any_gate, any_output, gate-low, plain-op, says-whole}
use Rattle.vlog_text.specs.Trees.{Input, Output, Reg, Wire, Declaration, Assign}
use Rattle.vlog_text.specs.Grammar.{SpellsText}
use Rattle.vlog_text.specs.Texts.{Describes, module_said}
use Rattle.vlog_text.specs.Written.{clock_name, input_name, output_name, net_name, declares, latch_initial, latch_next, net_inputs, net_outputs}
use Rattle.vlog_text.specs.Written.{net_declarations, net_source, written}
use Rattle.vlog_text.specs.Names.{paused_name, name_fault}
use Rattle.vlog_text.proofs.Lexing.{IsVariable, variable-state, variable-gate, variable-wire, variable-input, variable-output, variable-module, variable-clock}
use Rattle.vlog_text.proofs.Lexing.{variable-paused}
use Rattle.vlog_text.proofs.NetModules.{net_module, module-net}
use Rattle.vlog_text.proofs.NetNames.{declarations-are, input_words, output_words}
use Rattle.vlog_text.proofs.NetRules.{net_name-input, net_name-state, net_name-gate, EachAssign, each-assign, names-fit}
use Rattle.vlog_text.proofs.Spelling.{IsPlain, IsSpelled, source_kinds, says-source, spells-source, written_source, meant-written, nesting-written}

-- ---- which names are variables

gate-variable : (k : ℕ) (wire : Option WireId) → k < 2 ^ 64 → IfSome wire (λ w. w.0 < 2 ^ 32) → IsVariable (gate_name k wire)
gate-variable k None small fits = variable-gate k small
gate-variable k (Some w) small fits = variable-wire w.0 (omega (arith, fits))

net-variable : (net : Netlist) → IsWritable net → (n : ℕ) → n < net_count net → IsVariable (net_name net n)
net-variable net is n h =
    let few = is.is_net.numbered in
    net_cases net n h
    (λ low. subst IsVariable (sym (net_name-input net n low)) (variable-input (get_or net.inputs n []) (is.is_net.input_names_fit n [] low)))
    (λ j low e. subst IsVariable (sym (ap (net_name net) e ∙ net_name-state net j low)) (variable-state j (omega arith)))
    (λ k low e. subst IsVariable (sym (ap (net_name net) e ∙ net_name-gate net k any_gate low))
    (gate-variable k (get_or net.gates k any_gate).wire (omega arith) (is.wires_fit k any_gate low)))

one : (P : List ℕ → Type 0) (x : List ℕ) → P x → All P (x ∷ [])
one P x p zero d h = p
one P x p (suc k) d h = absurd (omega arith)

inputs-variables : (net : Netlist) → IsWritable net → All IsVariable (input_words net)
inputs-variables net is = All-map IsVariable input_name net.inputs (λ k d h. variable-input (get_or net.inputs k d) (is.is_net.input_names_fit k d h))

outputs-variables : (net : Netlist) → IsWritable net → All IsVariable (net_outputs net)
outputs-variables net is =
    All-append IsVariable (output_words net) (paused_name ∷ [])
    (All-map IsVariable output_name net.outputs (λ k d h. variable-output (get_or net.outputs k d).name (is.is_net.output_names_fit k d h)))
    (one IsVariable paused_name variable-paused)

states-variables : (net : Netlist) → IsWritable net → All IsVariable (state_names net)
states-variables net is =
    let few = is.is_net.numbered in
    All-numbered IsVariable (λ j (latch : Latch). state_name j) 0 net.latches (λ k d h. variable-state (0 + k) (omega arith))

gates-variables : (net : Netlist) → IsWritable net → All IsVariable (gate_names net)
gates-variables net is = All-numbered IsVariable (λ k (gate : Gate). gate_name k gate.wire) 0 net.gates (λ k d h.
    let z : 0 + k ≡ k = omega arith in
    subst IsVariable (net_name-gate net k d h ∙ ap (λ i. gate_name i (get_or net.gates k d).wire) (sym z))
    (net-variable net is (first_gate net + k) (omega arith)))

-- ---- the source

record IsReadable (a : Assign Expr) : Type 0 where
  target : IsVariable a.target
  value : IsPlain a.value

assigns-readable : (net : Netlist) → IsWritable net → EachAssign IsReadable net
assigns-readable net is = record {
  gates = λ k h. record {
    target = subst IsVariable (net_name-gate net k any_gate h) (net-variable net is (first_gate net + k) (omega arith));
    value = plain-op IsVariable (net_name net) (get_or net.gates k any_gate).op (net_count net) (omega (arith, gate-low net is k h)) (net-variable net is);
  };
  outputs = λ j h. record {
    target = variable-output (get_or net.outputs j any_output).name (is.is_net.output_names_fit j any_output h);
    value = net-variable net is (get_or net.outputs j any_output).net.0 (is.is_net.outputs_in_range j any_output h);
  };
  paused = record { target = variable-paused; value = net-variable net is net.paused is.is_net.paused_in_range };
}

declared-variables : (net : Netlist) → IsWritable net → All (λ d. IsVariable d.name) (net_declarations net)
declared-variables net is =
    let P = λ (d : Declaration). IsVariable d.name in
    let i = map (declares Input) (net_inputs net) in
    let o = map (declares Output) (net_outputs net) in
    let r = map (declares Reg) (state_names net) in
    let w = map (declares Wire) (gate_names net) in
    let given : All IsVariable (net_inputs net) = All-cons IsVariable clock_name (input_words net) variable-clock (inputs-variables net is) in
    let all = All-append P i (o ++ (r ++ w)) (All-map P (declares Input) (net_inputs net) given)
    (All-append P o (r ++ w) (All-map P (declares Output) (net_outputs net) (outputs-variables net is))
    (All-append P r w (All-map P (declares Reg) (state_names net) (states-variables net is))
    (All-map P (declares Wire) (gate_names net) (gates-variables net is)))) in
    subst (All P) (sym (declarations-are net)) all

spelled-net : (net : Netlist) → IsWritable net → IsSpelled (net_source net)
spelled-net net is =
    let few = is.is_net.numbered in
    let all = each-assign IsReadable net (assigns-readable net is) in
    record {
      first = clock_name;
      others = input_words net ++ net_outputs net;
      ports = refl;
      name_fits = variable-module net.name is.is_net.name_fits;
      first_fits = variable-clock;
      others_fit = All-append IsVariable (input_words net) (net_outputs net) (inputs-variables net is) (outputs-variables net is);
      declared = declared-variables net is;
      initials = All-numbered (λ i. IsVariable i.name) latch_initial 0 net.latches (λ k d h. variable-state (0 + k) (omega arith));
      targets = λ k d h. (all k d h).target;
      values = λ k d h. (all k d h).value;
      clock_fits = variable-clock;
      next_targets = All-numbered (λ n. IsVariable n.target) (latch_next net) 0 net.latches (λ k d h. variable-state (0 + k) (omega arith));
      next_sources = All-numbered (λ n. IsVariable n.source) (latch_next net) 0 net.latches
          (λ k d h. net-variable net is (get_or net.latches k d).from.0 (is.is_net.latches_in_range k d h));
    }

pub describes-net : (net : Netlist) → IsWritable net → Describes (written net) (net_module net)
describes-net net is =
    let s = net_source net in
    let spelled = spelled-net net is in
    record {
      written = written_source s;
      spelled = (
        subst (λ ks. SpellsText (written_source s) ks) (sym (says-whole (written net) (source_kinds s) (says-source s spelled))) (spells-source s spelled),
        omega (arith, nesting-written s.assigns spelled.values),
      );
      names_fit = ap name_fault (meant-written s) ∙ names-fit net is;
      means = ap module_said (meant-written s) ∙ module-net net is;
    }
