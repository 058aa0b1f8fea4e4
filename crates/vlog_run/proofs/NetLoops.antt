-- The module of a net has no combinational cycle: each of its assignments reads names that stand before its target.
use Rattle.std.proofs.Common.{◌≡◌, ℕ, ◌+◌, ◌-◌, ◌<◌, ◌≤◌, true, List, [], ◌∷◌, ◌++◌, length, map, get_or, sym, ap, ◌∙◌, subst, arith}
use Rattle.std.proofs.Common.{append_assoc, Contains, ⊎_elim}
use Rattle.std.specs.List.{AllByRecursion}
use Rattle.std.proofs.lemmas.Bool.{cases_lt}
use Rattle.std.proofs.lemmas.List.{length-append, length-map, get_or_append_left, get_or-append-add, get_or-map}
use Rattle.base_types.specs.Distinct.{all_differ}
use Rattle.base_types.specs.Names.{is_same_name}
use Rattle.net_ir.specs.declared.netlist.Latch.{Latch}
use Rattle.net_ir.specs.declared.netlist.NetOut.{NetOut}
use Rattle.net_ir.specs.Netlists.{Netlist, first_gate, net_count}
use Rattle.net_ir.specs.Numbered.{numbered}
use Rattle.net_ir.specs.Writing.{IsWritable}
use Rattle.net_ir.proofs.Exports.{length-numbered, get_or-numbered, map-numbered, any_gate}
use Rattle.net_expressions.specs.Names.{names_in}
use Rattle.net_expressions.specs.NetNames.{state_name, gate_names}
use Rattle.net_expressions.specs.Trees.{Expr}
use Rattle.net_expressions.proofs.Exports.{state_names, op-names}
use Rattle.run_steps.specs.Slots.{slot_in}
use Rattle.run_steps.specs.Equations.{NameEquation}
use Rattle.run_steps.specs.Equations as equations
use Rattle.run_steps.proofs.Exports.{IsRising, rising-no_loop, of-element, place-at}
use Rattle.vlog_text.specs.Machine.{driven_names}
use Rattle.vlog_text.specs.Trees.{Register, Assign, VerilogModule}
use Rattle.vlog_text.specs.Written.{written, Means, input_name, net_name, net_outputs, gate_assign, output_assign, paused_assign, net_assigns, net_register}
use Rattle.vlog_text.proofs.Exports.{net_names, first_names, length-names, net_name-at, net_module, input_words, targets-are, describes-net}
use Rattle.vlog_run.specs.Loops.{HasNoLoop, equation_of}
use Rattle.vlog_run.specs.Plans.{no_assign}
use Rattle.vlog_run.specs.Tracing.{IsModuleOf}
use Rattle.vlog_run.proofs.Described.{described-sound}

-- all names that the module of a net drives
abbrev all_names : Netlist → List (List ℕ)
all_names net = net_names net ++ net_outputs net

driven-net : (net : Netlist) → driven_names (net_module net) ≡ all_names net
driven-net net =
    ap (λ l. input_words net ++ (l ++ map (λ (a : Assign Expr). a.target) (net_assigns net)))
    (map-numbered (λ (r : Register). r.name) (net_register net) 0 net.latches)
    ∙ ap (λ l. input_words net ++ (state_names net ++ l)) (targets-are net)
    ∙ sym (append_assoc (input_words net) (state_names net) (gate_names net ++ net_outputs net))
    ∙ sym (append_assoc (first_names net) (gate_names net) (net_outputs net))

-- a name stands among the first ones
record IsBelow (names : List (List ℕ)) (limit : ℕ) (x : List ℕ) : Type 0 where
  place : ℕ
  low : place < limit
  within : place < length names
  is : get_or names place [] ≡ x

net-below : (net : Netlist) (n limit : ℕ) → n < limit → n < net_count net → IsBelow (all_names net) limit (net_name net n)
net-below net n limit low h =
    let wide = length-names net in
    let all = length-append (net_names net) (net_outputs net) in
    record {
      place = n;
      low = low;
      within = omega arith;
      is = get_or_append_left (net_names net) (net_outputs net) [] n (omega arith) ∙ sym (net_name-at net n h);
    }

any_output : NetOut
any_output = record { name = []; net = record { 0 = 0 } }

-- what an assignment reads stands before its target
reads-below : (net : Netlist) → IsWritable net → (k : ℕ) (d : Assign Expr) → k < length (net_assigns net)
    → AllByRecursion (IsBelow (all_names net) (first_gate net + k)) (names_in (get_or (net_assigns net) k d).value)
reads-below net is k d h = ⊎_elim on_gates behind (cases_lt k (length net.gates))
  where
    wide : length (numbered (gate_assign net) 0 net.gates) ≡ length net.gates
    wide = length-numbered (gate_assign net) 0 net.gates

    on_gates : k < length net.gates
        → AllByRecursion (IsBelow (all_names net) (first_gate net + k)) (names_in (get_or (net_assigns net) k d).value)
    on_gates low =
        let gate = get_or net.gates k any_gate in
        let at : get_or (net_assigns net) k d ≡ gate_assign net (0 + k) gate =
        get_or_append_left (numbered (gate_assign net) 0 net.gates) (map (output_assign net) net.outputs ++ paused_assign net ∷ []) d k
        (omega (arith, wide, low))
        ∙ get_or-numbered (gate_assign net) 0 net.gates k d any_gate low in
        subst (λ (a : Assign Expr). AllByRecursion (IsBelow (all_names net) (first_gate net + k)) (names_in a.value)) (sym at)
        (op-names (IsBelow (all_names net) (first_gate net + k)) (net_name net) gate.op (first_gate net + k) (is.is_net.reads_lower k any_gate low)
        (λ n below. net-below net n (first_gate net + k) below (omega (arith, below, low))))

    behind : length net.gates ≤ k
        → AllByRecursion (IsBelow (all_names net) (first_gate net + k)) (names_in (get_or (net_assigns net) k d).value)
    behind high = ⊎_elim on_outputs last (cases_lt (k - length net.gates) (length net.outputs))
      where
        at : get_or (net_assigns net) k d
            ≡ get_or (map (output_assign net) net.outputs ++ paused_assign net ∷ []) (k - length net.gates) d
        at =
            let n : k ≡ length (numbered (gate_assign net) 0 net.gates) + (k - length net.gates) = omega (arith, wide, high) in
            ap (λ m. get_or (net_assigns net) m d) n
            ∙ get_or-append-add (numbered (gate_assign net) 0 net.gates) (map (output_assign net) net.outputs ++ paused_assign net ∷ [])
            (k - length net.gates) d

        one : (n : ℕ) → n < net_count net → IsBelow (all_names net) (first_gate net + k) (net_name net n)
        one n low = net-below net n (first_gate net + k) (omega (arith, low, high)) low

        on_outputs : k - length net.gates < length net.outputs
            → AllByRecursion (IsBelow (all_names net) (first_gate net + k)) (names_in (get_or (net_assigns net) k d).value)
        on_outputs low =
            let j = k - length net.gates in
            let o = get_or net.outputs j any_output in
            let few = length-map net.outputs (output_assign net) in
            let here : get_or (net_assigns net) k d ≡ output_assign net o =
            at ∙ get_or_append_left (map (output_assign net) net.outputs) (paused_assign net ∷ []) d j (omega (arith, few, low))
            ∙ get_or-map (output_assign net) net.outputs j any_output d low in
            subst (λ (a : Assign Expr). AllByRecursion (IsBelow (all_names net) (first_gate net + k)) (names_in a.value)) (sym here)
            (one o.net.0 (is.is_net.outputs_in_range j any_output low), tt)

        last : length net.outputs ≤ k - length net.gates
            → AllByRecursion (IsBelow (all_names net) (first_gate net + k)) (names_in (get_or (net_assigns net) k d).value)
        last more =
            let few = length-map net.outputs (output_assign net) in
            let a = length-append (numbered (gate_assign net) 0 net.gates) (map (output_assign net) net.outputs ++ paused_assign net ∷ []) in
            let b = length-append (map (output_assign net) net.outputs) (paused_assign net ∷ []) in
            let n : k - length net.gates ≡ length (map (output_assign net) net.outputs) + 0 = omega (arith, few, more, h, wide, a, b, high) in
            let here : get_or (net_assigns net) k d ≡ paused_assign net =
            at ∙ ap (λ m. get_or (map (output_assign net) net.outputs ++ paused_assign net ∷ []) m d) n
            ∙ get_or-append-add (map (output_assign net) net.outputs) (paused_assign net ∷ []) 0 d in
            subst (λ (a : Assign Expr). AllByRecursion (IsBelow (all_names net) (first_gate net + k)) (names_in a.value)) (sym here)
            (one net.paused is.is_net.paused_in_range, tt)

first-count : (net : Netlist) → length (first_names net) ≡ first_gate net
first-count net =
    let i = length-map net.inputs input_name in
    let l = length-numbered (λ j (latch : Latch). state_name j) 0 net.latches in
    length-append (input_words net) (state_names net) ∙ omega (arith, i, l)

all-count : (net : Netlist) → first_gate net + length (net_assigns net) ≡ length (all_names net)
all-count net =
    let first = first-count net in
    let all = ap length (append_assoc (first_names net) (gate_names net) (net_outputs net))
    ∙ length-append (first_names net) (gate_names net ++ net_outputs net) in
    let targets = sym (length-map (net_assigns net) (λ (a : Assign Expr). a.target)) ∙ ap length (targets-are net) in
    omega (arith, first, all, targets)

-- the targets stand behind the inputs and the registers
target-at : (net : Netlist) (m : ℕ) → m < length (net_assigns net)
    → get_or (all_names net) (first_gate net + m) [] ≡ (get_or (net_assigns net) m no_assign).target
target-at net m h =
    let targets = gate_names net ++ net_outputs net in
    let wide : length (first_names net) ≡ first_gate net = first-count net in
    ap (λ l. get_or l (first_gate net + m) []) (append_assoc (first_names net) (gate_names net) (net_outputs net))
    ∙ ap (λ n. get_or (first_names net ++ targets) (n + m) []) (sym wide) ∙ get_or-append-add (first_names net) targets m []
    ∙ ap (λ l. get_or l m []) (sym (targets-are net)) ∙ get_or-map (λ (a : Assign Expr). a.target) (net_assigns net) m no_assign [] h

rising-net : (net : Netlist) → IsWritable net → IsRising (map equation_of (net_assigns net))
rising-net net is k m d low_k low_m has =
    let assigns = net_assigns net in
    let names = all_names net in
    let n = length-map assigns equation_of in
    let lk : k < length assigns = omega (arith, low_k, n) in
    let lm : m < length assigns = omega (arith, low_m, n) in
    let at-k : get_or (map equation_of assigns) k d ≡ equation_of (get_or assigns k no_assign) = get_or-map equation_of assigns k no_assign d lk in
    let at-m : get_or (map equation_of assigns) m d ≡ equation_of (get_or assigns m no_assign) = get_or-map equation_of assigns m no_assign d lm in
    let x = (get_or assigns m no_assign).target in
    let reads : Contains (names_in (get_or assigns k no_assign).value) x =
    subst (λ (e : NameEquation). Contains (names_in (get_or assigns k no_assign).value) e.output) at-m
    (subst (λ (e : NameEquation). Contains e.reads (get_or (map equation_of assigns) m d).output) at-k has) in
    let below = of-element (IsBelow names (first_gate net + k)) (names_in (get_or assigns k no_assign).value) (reads-below net is k no_assign lk) x reads in
    let differ : all_differ is_same_name names ≡ true =
    ap (all_differ is_same_name) (sym (driven-net net)) ∙ (described-sound (written net) (net_module net) (describes-net net is)).differ in
    let count : first_gate net + length assigns ≡ length names = all-count net in
    let own = ap (slot_in names) (sym (target-at net m lm)) ∙ place-at names differ (first_gate net + m) (omega (arith, count, lm)) in
    let read = ap (slot_in names) (sym below.is) ∙ place-at names differ below.place below.within in
    omega (arith, own, read, below.low)

pub net-no_loop : (net : Netlist) → IsWritable net → (design : VerilogModule) → design.assigns ≡ net_assigns net → HasNoLoop design
net-no_loop net is design same =
    subst (λ l. equations.HasNoEquationLoop (map equation_of l)) (sym same) (rising-no_loop (map equation_of (net_assigns net)) (rising-net net is))

-- the module of the text that is written of a net
pub written-module : (net : Netlist) → IsWritable net → (text : List ℕ) (design : VerilogModule) → (means : Means text net) → design ≡ means.design
    → design.assigns ≡ net_assigns net → IsModuleOf net design
written-module net is text design means same assigns = record {
  text = text;
  means = means;
  is = same;
  acyclic = net-no_loop net is design assigns;
}
