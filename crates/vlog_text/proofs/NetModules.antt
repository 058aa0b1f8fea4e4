-- Inner: the module of a net's source.
use Rattle.std.proofs.Common.{◌≡◌, ℕ, ◌+◌, ◌<◌, zero, suc, Bool, true, false, not, List, [], ◌∷◌, length, map, get_or, refl, sym, ap, ◌∙◌, arith}
use Rattle.std.proofs.lemmas.Bool.{and_parts, not-true}
use Rattle.base_types.specs.Distinct.{all_differ}
use Rattle.base_types.specs.Names.{is_same_name}
use Rattle.base_types.proofs.Exports.{same_name-self}
use Rattle.net_ir.specs.declared.netlist.Latch.{Latch}
use Rattle.net_ir.specs.NameLists.{is_among}
use Rattle.net_ir.specs.Netlists.{Netlist}
use Rattle.net_ir.specs.Numbered.{numbered}
use Rattle.net_ir.specs.Writing.{IsWritable}
use Rattle.net_ir.proofs.Exports.{any-none, length-numbered, get_or-numbered, map-numbered}
use Rattle.net_expressions.specs.NetNames.{state_name, gate_names}
use Rattle.net_expressions.proofs.Exports.{numbered-same, differ-states}
use Rattle.vlog_text.specs.Trees.{VerilogModule}
use Rattle.vlog_text.specs.Texts.{initial_value, next_source, register_said, module_said}
use Rattle.vlog_text.specs.Written.{module_name, net_name, latch_initial, latch_next, net_inputs, net_outputs, net_assigns, net_source, net_register}
use Rattle.vlog_text.proofs.NetNames.{inputs-net, outputs-net, regs-net, wires-net}

abbrev pub net_module : Netlist → VerilogModule
net_module net = record {
  name = module_name net.name;
  inputs = net_inputs net;
  outputs = net_outputs net;
  registers = numbered (net_register net) 0 net.latches;
  wires = gate_names net;
  assigns = net_assigns net;
}

-- the name of a latch is that of no later one
later-apart : (n : ℕ) (l : Latch) (latches : List Latch) → all_differ is_same_name (numbered (λ j latch. state_name j) n (l ∷ latches)) ≡ true → (j : ℕ)
    → j < length latches → is_same_name (state_name n) (state_name (n + 1 + j)) ≡ false
later-apart n l latches differ j h =
    let names = numbered (λ j (latch : Latch). state_name j) (n + 1) latches in
    let parts = and_parts (not (is_among (state_name n) names)) (all_differ is_same_name names) differ in
    let wide = length-numbered (λ j (latch : Latch). state_name j) (n + 1) latches in
    let at : get_or names j [] ≡ state_name (n + 1 + j) = get_or-numbered (λ j (latch : Latch). state_name j) (n + 1) latches j [] l h in
    ap (is_same_name (state_name n)) (sym at)
    ∙ any-none (is_same_name (state_name n)) names (not-true (is_among (state_name n) names) parts.0) j [] (omega arith)

differ-later : (n : ℕ) (l : Latch) (latches : List Latch) → all_differ is_same_name (numbered (λ j latch. state_name j) n (l ∷ latches)) ≡ true
    → all_differ is_same_name (numbered (λ j latch. state_name j) (n + 1) latches) ≡ true
differ-later n l latches differ =
    let names = numbered (λ j (latch : Latch). state_name j) (n + 1) latches in
    (and_parts (not (is_among (state_name n) names)) (all_differ is_same_name names) differ).1

initial-at : (n : ℕ) (latches : List Latch) → all_differ is_same_name (numbered (λ j latch. state_name j) n latches) ≡ true → (j : ℕ) (d : Latch)
    → j < length latches → initial_value (numbered latch_initial n latches) (state_name (n + j)) ≡ (get_or latches j d).init
initial-at n [] differ j d h = absurd (omega arith)
initial-at n (l ∷ latches) differ zero d h =
    let z : n + 0 ≡ n = omega arith in
    ap (λ k. initial_value (numbered latch_initial n (l ∷ latches)) (state_name k)) z ∙ rw (same_name-self (state_name n)) refl
initial-at n (l ∷ latches) differ (suc j) d h =
    let s : n + suc j ≡ n + 1 + j = omega arith in
    ap (λ k. initial_value (numbered latch_initial n (l ∷ latches)) (state_name k)) s
    ∙ rw (later-apart n l latches differ j (omega arith)) (initial-at (n + 1) latches (differ-later n l latches differ) j d (omega arith))

next-at : (net : Netlist) (n : ℕ) (latches : List Latch) → all_differ is_same_name (numbered (λ j latch. state_name j) n latches) ≡ true → (j : ℕ) (d : Latch)
    → j < length latches → next_source (numbered (latch_next net) n latches) (state_name (n + j)) ≡ net_name net (get_or latches j d).from.0
next-at net n [] differ j d h = absurd (omega arith)
next-at net n (l ∷ latches) differ zero d h =
    let z : n + 0 ≡ n = omega arith in
    ap (λ k. next_source (numbered (latch_next net) n (l ∷ latches)) (state_name k)) z ∙ rw (same_name-self (state_name n)) refl
next-at net n (l ∷ latches) differ (suc j) d h =
    let s : n + suc j ≡ n + 1 + j = omega arith in
    ap (λ k. next_source (numbered (latch_next net) n (l ∷ latches)) (state_name k)) s
    ∙ rw (later-apart n l latches differ j (omega arith)) (next-at net (n + 1) latches (differ-later n l latches differ) j d (omega arith))

registers-net : (net : Netlist) → IsWritable net
    → map (register_said (net_source net)) (numbered (λ j (latch : Latch). state_name j) 0 net.latches) ≡ numbered (net_register net) 0 net.latches
registers-net net is =
    let s = net_source net in
    map-numbered (register_said s) (λ j (latch : Latch). state_name j) 0 net.latches
    ∙ numbered-same (λ j (latch : Latch). register_said s (state_name j)) (net_register net) 0 net.latches
    (λ k d h.
    let init = initial-at 0 net.latches (differ-states net is) k d h in
    let from = next-at net 0 net.latches (differ-states net is) k d h in
    ap (λ (b : Bool). record { name = state_name (0 + k); init = b; from = next_source s.nexts (state_name (0 + k)) }) init
    ∙ ap (λ (x : List ℕ). record { name = state_name (0 + k); init = (get_or net.latches k d).init; from = x }) from)

pub module-net : (net : Netlist) → IsWritable net → module_said (net_source net) ≡ net_module net
module-net net is = rw (inputs-net net, outputs-net net, regs-net net, wires-net net, registers-net net is) refl
