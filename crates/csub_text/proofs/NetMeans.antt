-- The text of a net means the net.
use Rattle.std.proofs.Common.{◌≡◌, ℕ, ◌+◌, ◌<◌, ◌^◌, ◌==◌, zero, suc, Bool, true, false, not, List, [], ◌∷◌, ◌++◌, length, map, get_or, drop}
use Rattle.std.proofs.Common.{All}
use Rattle.std.proofs.Common.{refl, sym, ap, ◌∙◌, subst, arith, Option, Some, None}
use Rattle.std.specs.Prelude.{filter, IfSome}
use Rattle.std.proofs.lemmas.Bool.{and_parts, not-true, or_parts}
use Rattle.std.specs.Cmp.Lexicographic.{nat_list_eq_equiv}
use Rattle.std.proofs.lemmas.List.{length-map, get_or-map, ext_get_or, get_or-drop, length-drop, length-append}
use Rattle.std.proofs.lemmas.List.Elements.{All-append, All-map}
use Rattle.base_facts.proofs.Lists.{map-composed}
use Rattle.base_types.specs.declared.indices.WireId.{WireId}
use Rattle.base_types.specs.Names.{is_name, is_same_name}
use Rattle.base_types.specs.Distinct.{all_differ}
use Rattle.base_types.specs.Items.{Item, Event, Reset, EachEvent}
use Rattle.base_types.proofs.Exports.{same_name-self}
use Rattle.net_ir.specs.declared.netlist.Gate.{Gate}
use Rattle.net_ir.specs.declared.netlist.Latch.{Latch}
use Rattle.net_ir.specs.declared.netlist.NetOut.{NetOut}
use Rattle.net_ir.specs.Gates.{value_in}
use Rattle.net_ir.specs.Netlists.{Netlist, first_gate, net_count}
use Rattle.net_ir.specs.Runs.{net_values, next_latches, initial_latches, values_from, shown, net_values_run}
use Rattle.net_ir.proofs.Exports.{any-none, length-gate_values, length-numbered, get_or-numbered, All-numbered, length-next, net_cases}
use Rattle.csub_text.specs.Trees.{Assign, Name}
use Rattle.csub_text.specs.Tokens.{Named}
use Rattle.csub_text.specs.Grammar.{begins_input, begins_output, begins_global, global_name, SpellsText}
use Rattle.net_ir.specs.NameLists.{is_among}
use Rattle.csub_text.specs.Names.{inputs_of, outputs_of}
use Rattle.csub_text.specs.Texts.{Describes}
use Rattle.csub_text.specs.Machine.{Memory, with_inputs, first_memory, run_body, call, memories_from, seen}
use Rattle.csub_text.specs.Written.{input_name, state_name, gate_name, next_name, answer_name, net_name, input_variable, output_variable, net_state}
use Rattle.csub_text.specs.Written.{gate_names, net_globals, net_locals}
use Rattle.csub_text.specs.Written.{net_body, net_program, shown_by_call, written, Means}
use Rattle.net_expressions.proofs.Exports.{says-whole, plain-op, mark, differ-states, any_gate, any_latch, any_output, gate-low, long-name}
use Rattle.csub_text.proofs.Lexing.{IsVariable, variable-input, variable-state, variable-gate, variable-wire, variable-next, variable-answer}
use Rattle.csub_text.proofs.Lexing.{variable-given, variable-shown}
use Rattle.csub_text.proofs.Spelling.{IsPlain, IsFramed, IsSpelled, program_kinds, says-program, spells-program, written_program, meant-written}
use Rattle.csub_text.proofs.Spelling.{nesting-written}
use Rattle.csub_text.proofs.NetNames.{input_names, next_names}
use Rattle.net_ir.specs.Numbered.{numbered}
use Rattle.net_ir.specs.Writing.{IsWritable}
use Rattle.csub_text.proofs.NetRules.{EachAssign, each-assign, net_name-input, net_name-state, net_name-gate}
use Rattle.csub_text.proofs.NetSets.{names-fit}
use Rattle.csub_text.proofs.NetCalls.{Shows, Leaves, call-leaves}

-- ---- inputs and outputs

inputs-given : (xs : List (List ℕ)) (ys : List (List ℕ)) → filter begins_input ys ≡ [] →
    filter begins_input (map input_variable xs ++ ys) ≡ map input_variable xs
inputs-given [] ys none = none
inputs-given (x ∷ xs) ys none = ap (λ l. input_variable x ∷ l) (inputs-given xs ys none)

no_inputs : (outputs : List NetOut) → filter begins_input (map output_variable outputs) ≡ []
no_inputs [] = refl
no_inputs (o ∷ outputs) = no_inputs outputs

outputs-given : (xs : List (List ℕ)) (ys : List (List ℕ)) → filter begins_output (map input_variable xs ++ ys) ≡ filter begins_output ys
outputs-given [] ys = refl
outputs-given (x ∷ xs) ys = outputs-given xs ys

all_outputs : (outputs : List NetOut) → filter begins_output (map output_variable outputs) ≡ map output_variable outputs
all_outputs [] = refl
all_outputs (o ∷ outputs) = ap (λ l. output_variable o ∷ l) (all_outputs outputs)

pub inputs-net : (net : Netlist) → inputs_of (net_program net) ≡ map input_variable net.inputs
inputs-net net = inputs-given net.inputs (map output_variable net.outputs) (no_inputs net.outputs)

pub outputs-net : (net : Netlist) → outputs_of (net_program net) ≡ map output_variable net.outputs
outputs-net net = outputs-given net.inputs (map output_variable net.outputs) ∙ all_outputs net.outputs

-- ---- runs

abbrev Keeps : Netlist → Memory → List Bool → Type 0
Keeps net m latches = (j : ℕ) → j < length net.latches → m (state_name j) ≡ get_or latches j false

first-other : (n : ℕ) (latches : List Latch) (x : List ℕ) → is_among x (numbered (λ j latch. state_name j) n latches) ≡ false →
    first_memory (numbered net_state n latches) x ≡ false
first-other n [] x none = refl
first-other n (l ∷ latches) x none =
    let parts = or_parts (is_same_name x (state_name n)) (is_among x (numbered (λ j latch. state_name j) (n + 1) latches)) none in
    rw parts.0 (first-other (n + 1) latches x parts.1)

first-keeps : (n : ℕ) (latches : List Latch) → all_differ is_same_name (numbered (λ j latch. state_name j) n latches) ≡ true → (j : ℕ) → j < length latches
    → first_memory (numbered net_state n latches) (state_name (n + j)) ≡ (get_or latches j any_latch).init
first-keeps n [] differ j h = absurd (omega arith)
first-keeps n (l ∷ latches) differ zero h =
    let z : n + 0 ≡ n = omega arith in
    ap (λ k. first_memory (numbered net_state n (l ∷ latches)) (state_name k)) z ∙ rw (same_name-self (state_name n)) refl
first-keeps n (l ∷ latches) differ (suc j) h =
    let s : n + suc j ≡ n + 1 + j = omega arith in
    let names = numbered (λ j latch. state_name j) (n + 1) latches in
    let parts = and_parts (not (is_among (state_name n) names)) (all_differ is_same_name names) differ in
    let wide = length-numbered (λ j (latch : Latch). state_name j) (n + 1) latches in
    let at : get_or names j [] ≡ state_name (n + 1 + j) = get_or-numbered (λ j latch. state_name j) (n + 1) latches j [] any_latch (omega arith) in
    let apart : is_same_name (state_name (n + 1 + j)) (state_name n) ≡ false =
    ap (λ x. is_same_name x (state_name n)) (sym at) ∙ nat_list_eq_equiv.symm (get_or names j []) (state_name n)
    ∙ any-none (is_same_name (state_name n)) names (not-true (is_among (state_name n) names) parts.0) j [] (omega arith) in
    ap (λ k. first_memory (numbered net_state n (l ∷ latches)) (state_name k)) s ∙ rw apart (first-keeps (n + 1) latches parts.1 j (omega arith))

pub begins-kept : (net : Netlist) → IsWritable net → Keeps net (first_memory (net_program net).states) (initial_latches net)
begins-kept net is j h =
    let z : j ≡ 0 + j = omega arith in
    ap (λ k. first_memory (net_program net).states (state_name k)) z ∙ first-keeps 0 net.latches (differ-states net is) j h
    ∙ sym (get_or-map (λ (l : Latch). l.init) net.latches j any_latch false h)

-- what a call of the program leaves
call-net : (net : Netlist) → IsWritable net → (latches inputs : List Bool) (m : Memory) → length latches ≡ length net.latches
    → length inputs ≡ length net.inputs → Keeps net m latches → Leaves net (net_values net latches inputs) (call (net_program net) inputs m)
call-net net is latches inputs m wide_l wide_i keeps =
    subst (λ names. Leaves net (net_values net latches inputs) (run_body (net_body net) (with_inputs names inputs m))) (sym (inputs-net net))
    (call-leaves net is latches inputs m wide_l wide_i keeps)

pub kept-next : (net : Netlist) (values : List Bool) (m : Memory) → Shows net values m → Keeps net m (next_latches net values)
kept-next net values m shows j h =
    shows.states j h ∙ sym (get_or-map (λ (l : Latch). value_in values l.from.0) net.latches j any_latch false h)

pub seen-net : (net : Netlist) (values : List Bool) (m : Memory) → Shows net values m → seen (net_program net) m ≡ shown_by_call (shown net values)
seen-net net values m shows =
    let outputs : map m (outputs_of (net_program net)) ≡ map (λ o. value_in values o.net.0) net.outputs =
    ap (map m) (outputs-net net)
    ∙ ext_get_or false (map m (map output_variable net.outputs)) (map (λ o. value_in values o.net.0) net.outputs)
    (length-map (map output_variable net.outputs) m ∙ length-map net.outputs output_variable
    ∙ sym (length-map net.outputs (λ (o : NetOut). value_in values o.net.0)))
    (λ k h.
    let a = length-map (map output_variable net.outputs) m in
    let b = length-map net.outputs output_variable in
    get_or-map m (map output_variable net.outputs) k [] false (omega arith)
    ∙ ap m (get_or-map output_variable net.outputs k any_output [] (omega arith)) ∙ shows.outputs k (omega arith)
    ∙ sym (get_or-map (λ (o : NetOut). value_in values o.net.0) net.outputs k any_output false (omega arith))) in
    ap (λ o. record { outputs = o; answer = m answer_name }) outputs
    ∙ ap (λ a. record { outputs = map (λ (o : NetOut). value_in values o.net.0) net.outputs; answer = a }) shows.answer

gates-net : (net : Netlist) (latches inputs : List Bool) (m : Memory) → length latches ≡ length net.latches → length inputs ≡ length net.inputs
    → Leaves net (net_values net latches inputs) m → map m (gate_names net) ≡ drop (first_gate net) (net_values net latches inputs)
gates-net net latches inputs m wide_l wide_i leaves =
    let values = net_values net latches inputs in
    let a = length-map (gate_names net) m in
    let b = length-numbered (λ k (gate : Gate). gate_name k gate.wire) 0 net.gates in
    let c = length-drop (first_gate net) values in
    let e = length-gate_values (inputs ++ latches) net.gates in
    let f = length-append inputs latches in
    ext_get_or false (map m (gate_names net)) (drop (first_gate net) values) (omega arith)
    (λ k h.
    let z : 0 + k ≡ k = omega arith in
    get_or-map m (gate_names net) k [] false (omega arith)
    ∙ ap m (get_or-numbered (λ k gate. gate_name k gate.wire) 0 net.gates k [] any_gate (omega arith)
    ∙ ap (λ i. gate_name i (get_or net.gates k any_gate).wire) z)
    ∙ leaves.gates k (omega arith) ∙ sym (get_or-drop (first_gate net) values k false))

-- what is so behind every call of the values of its nets is so of all calls
runs-net : {X : Type 0} (net : Netlist) → IsWritable net → (f : Memory → X) (g : List Bool → X)
    → ((latches inputs : List Bool) (m : Memory) → length latches ≡ length net.latches → length inputs ≡ length net.inputs
    → Leaves net (net_values net latches inputs) m → f m ≡ g (net_values net latches inputs))
    → (items : List Item) (latches : List Bool) (m : Memory) → length latches ≡ length net.latches → Keeps net m latches
    → EachEvent (λ inputs. length inputs ≡ length net.inputs) items
    → map f (memories_from (net_program net) m items) ≡ map g (values_from net latches items)
runs-net net is f g each [] latches m wide keeps widths = refl
runs-net net is f g each (Event inputs ∷ items) latches m wide keeps widths =
    let values = net_values net latches inputs in
    let leaves = call-net net is latches inputs m wide widths.0 keeps in
    let later = runs-net net is f g each items (next_latches net values) (call (net_program net) inputs m) (length-next net values)
    (kept-next net values (call (net_program net) inputs m) leaves.shows) widths.1 in
    ap (λ x. x ∷ map f (memories_from (net_program net) (call (net_program net) inputs m) items))
    (each latches inputs (call (net_program net) inputs m) wide widths.0 leaves)
    ∙ ap (λ l. g values ∷ l) later
runs-net net is f g each (Reset ∷ items) latches m wide keeps widths =
    runs-net net is f g each items (initial_latches net) (first_memory (net_program net).states) (length-map net.latches (λ (l : Latch). l.init))
    (begins-kept net is) widths

-- ---- the text describes the program

pub net-variable : (net : Netlist) → IsWritable net → (n : ℕ) → n < net_count net → IsVariable (net_name net n)
net-variable net is n h =
    let few = is.is_net.numbered in
    net_cases net n h
    (λ low. subst IsVariable (sym (net_name-input net n low)) (variable-input n (omega arith)))
    (λ j low e. subst IsVariable (sym (ap (net_name net) e ∙ net_name-state net j low)) (variable-state j (omega arith)))
    (λ k low e. subst IsVariable (sym (ap (net_name net) e ∙ net_name-gate net k any_gate low))
    (gate-variable k (get_or net.gates k any_gate).wire (omega arith) (is.wires_fit k any_gate low)))
  where
    gate-variable : (k : ℕ) (wire : Option WireId) → k < 2 ^ 64 → IfSome wire (λ w. w.0 < 2 ^ 32) → IsVariable (gate_name k wire)
    gate-variable k None small fits = variable-gate k small
    gate-variable k (Some w) small fits = variable-wire w.0 (omega (arith, fits))

pub record IsReadable (a : Assign) : Type 0 where
  pub target : IsVariable a.target
  pub value : IsPlain a.value

pub assigns-readable : (net : Netlist) → IsWritable net → EachAssign IsReadable net
assigns-readable net is =
    let few = is.is_net.numbered in
    record {
      inputs = λ j h. record { target = variable-input j (omega arith); value = variable-given (get_or net.inputs j []) (is.is_net.input_names_fit j [] h) };
      gates = λ k h. record {
        target = subst IsVariable (net_name-gate net k any_gate h) (net-variable net is (first_gate net + k) (omega arith));
        value = plain-op IsVariable (net_name net) (get_or net.gates k any_gate).op (net_count net) (omega (arith, gate-low net is k h)) (net-variable net is);
      };
      nexts = λ j h. record {
        target = variable-next j (omega arith);
        value = net-variable net is (get_or net.latches j any_latch).from.0 (is.is_net.latches_in_range j any_latch h);
      };
      outputs = λ j h. record {
        target = variable-shown (get_or net.outputs j any_output).name (is.is_net.output_names_fit j any_output h);
        value = net-variable net is (get_or net.outputs j any_output).net.0 (is.is_net.outputs_in_range j any_output h);
      };
      answer = record { target = variable-answer; value = net-variable net is net.paused is.is_net.paused_in_range };
      states = λ j h. record { target = variable-state j (omega arith); value = variable-next j (omega arith) };
    }

global-input : (name : List ℕ) → is_name name ≡ true → global_name (Named (input_variable name)) ≡ Some (input_variable name)
global-input name fits = rw (long-name name fits) refl

global-output : (o : NetOut) → is_name o.name ≡ true → global_name (Named (output_variable o)) ≡ Some (output_variable o)
global-output o fits = rw (long-name o.name fits) refl

no_global : (x : List ℕ) → (mark x == 73) ≡ false → (mark x == 79) ≡ false → begins_global x ≡ false
no_global [] a b = refl
no_global (c ∷ []) a b = rw (a, b) refl
no_global (c ∷ d ∷ cs) a b = rw (a, b) refl

gate-own : (k : ℕ) (wire : _) → begins_global (gate_name k wire) ≡ false
gate-own k None = no_global (gate_name k None) refl refl
gate-own k (Some w) = no_global (gate_name k (Some w)) refl refl

pub framed-net : (net : Netlist) → IsWritable net → IsFramed (net_program net).states (net_globals net) (net_locals net) (Name answer_name)
framed-net net is =
    let few = is.is_net.numbered in
    record {
      states = All-numbered (λ s. IsVariable s.name) net_state 0 net.latches (λ k d h. variable-state (0 + k) (omega arith));
      globals = All-append IsVariable (map input_variable net.inputs) (map output_variable net.outputs)
          (All-map IsVariable input_variable net.inputs (λ k d h. variable-given (get_or net.inputs k d) (is.is_net.input_names_fit k d h)))
          (All-map IsVariable output_variable net.outputs (λ k d h. variable-shown (get_or net.outputs k d).name (is.is_net.output_names_fit k d h)));
      locals = All-append IsVariable (input_names net) _ (All-numbered IsVariable (λ j name. input_name j) 0 net.inputs
          (λ k d h. variable-input (0 + k) (omega arith)))
          (All-append IsVariable (gate_names net) _ (gates-variables net is)
          (All-append IsVariable (next_names net) (answer_name ∷ [])
          (All-numbered IsVariable (λ j latch. next_name j) 0 net.latches (λ k d h. variable-next (0 + k) (omega arith)))
          (one IsVariable answer_name variable-answer)));
      answer = variable-answer;
      states_own = All-numbered (λ s. begins_global s.name ≡ false) net_state 0 net.latches (λ k d h. no_global (state_name (0 + k)) refl refl);
      globals_long = All-append (λ n. global_name (Named n) ≡ Some n) (map input_variable net.inputs) (map output_variable net.outputs)
          (All-map (λ n. global_name (Named n) ≡ Some n) input_variable net.inputs
          (λ k d h. global-input (get_or net.inputs k d) (is.is_net.input_names_fit k d h)))
          (All-map (λ n. global_name (Named n) ≡ Some n) output_variable net.outputs
          (λ k d h. global-output (get_or net.outputs k d) (is.is_net.output_names_fit k d h)));
      locals_own = All-append (λ n. begins_global n ≡ false) (input_names net) _
          (All-numbered (λ n. begins_global n ≡ false) (λ j name. input_name j) 0 net.inputs (λ k d h. no_global (input_name (0 + k)) refl refl))
          (All-append (λ n. begins_global n ≡ false) (gate_names net) _
          (All-numbered (λ n. begins_global n ≡ false) (λ k gate. gate_name k gate.wire) 0 net.gates (λ k d h. gate-own (0 + k) (get_or net.gates k d).wire))
          (All-append (λ n. begins_global n ≡ false) (next_names net) (answer_name ∷ [])
          (All-numbered (λ n. begins_global n ≡ false) (λ j latch. next_name j) 0 net.latches (λ k d h. no_global (next_name (0 + k)) refl refl))
          (one (λ n. begins_global n ≡ false) answer_name refl)));
    }
  where
    one : (P : List ℕ → Type 0) (x : List ℕ) → P x → All P (x ∷ [])
    one P x p zero d h = p
    one P x p (suc k) d h = absurd (omega arith)

    gates-variables : (net : Netlist) → IsWritable net → All IsVariable (gate_names net)
    gates-variables net is = All-numbered IsVariable (λ k gate. gate_name k gate.wire) 0 net.gates (λ k d h.
        let z : 0 + k ≡ k = omega arith in
        subst IsVariable (net_name-gate net k d h ∙ ap (λ i. gate_name i (get_or net.gates k d).wire) (sym z))
        (net-variable net is (first_gate net + k) (omega arith)))

spelled-net : (net : Netlist) → IsWritable net → IsSpelled (net_program net)
spelled-net net is =
    let all = each-assign IsReadable net (assigns-readable net is) in
    record { frame = framed-net net is; targets = λ k d h. (all k d h).target; values = λ k d h. (all k d h).value }

describes-net : (net : Netlist) → IsWritable net → Describes (written net) (net_program net)
describes-net net is =
    let p = net_program net in
    let spelled = spelled-net net is in
    record {
      written = written_program p;
      spelled = (
        subst (λ ks. SpellsText (written_program p) ks) (sym (says-whole (written net) (program_kinds p) (says-program p spelled))) (spells-program p spelled),
        omega (arith, nesting-written p spelled),
      );
      means = meant-written p;
      names_fit = names-fit net is;
    }

pub Means-written : (net : Netlist) → IsWritable net → Means (written net) net
Means-written net is =
    let wide = length-map net.latches (λ (l : Latch). l.init) in
    record {
      program = net_program net;
      describes = describes-net net is;
      inputs = inputs-net net;
      outputs = outputs-net net;
      states = refl;
      shows = λ items widths.
          runs-net net is (seen (net_program net)) (λ values. shown_by_call (shown net values))
          (λ latches inputs m wl wi leaves. seen-net net (net_values net latches inputs) m leaves.shows)
          items (initial_latches net) (first_memory (net_program net).states) wide (begins-kept net is) widths
          ∙ map-composed shown_by_call (shown net) (net_values_run net items);
      nets = λ items widths.
          runs-net net is (λ memory. map memory (gate_names net)) (drop (first_gate net))
          (λ latches inputs m wl wi leaves. gates-net net latches inputs m wl wi leaves)
          items (initial_latches net) (first_memory (net_program net).states) wide (begins-kept net is) widths;
    }
