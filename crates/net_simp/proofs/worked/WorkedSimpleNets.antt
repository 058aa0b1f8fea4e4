-- Worked nets, by hand: what in a net is left to simplify, one cause each.
use Rattle.std.proofs.Common.{◌≡◌, ℕ, true, false, None, Some, List, [], ◌∷◌, map, codes, refl, sym, ap}
use Rattle.std.proofs.Common.{length, slice_index_or, inl, inr, arith, rules, lit<, lit≤}
use Rattle.std.proofs.lemmas.Bool.{true≢false}
use Rattle.base_types.specs.Items.{Event}
use Rattle.base_types.specs.declared.indices.NetId.{NetId}
use Rattle.net_ir.specs.declared.netlist.Op.{Op}
use Rattle.net_ir.specs.declared.netlist.Op.TheVariants.{Const, Copy, Not, And, Or}
use Rattle.net_ir.specs.declared.netlist.Gate.{Gate}
use Rattle.net_ir.specs.Netlists.{Netlist}
use Rattle.net_simp.specs.SameRuns.{carried_values, SameParts, SameInstants, SameRuns}
use Rattle.net_simp.specs.SimpleNets.{EachFormOnce, EachIsReduced, NoCopies, Computes, ReadsComputed, ReadsNoneTwice, EachIsUsed}
use Rattle.net_simp.specs.SimpleNets.{OperandsDiffer, reads, is_used, IsSimple}

abbrev net : ℕ → NetId
net n = record { 0 = n }

abbrev gate : Op → Gate
gate op = record { op = op; wire = None }

-- the nets 0 and 1 are inputs, 2 is a latch that reads 6, and gates stand from 3 on; the output is 4, and 3 says that the program pauses
abbrev with_gates : List Gate → Netlist
with_gates gates = record {
  name = codes "T";
  inputs = codes "A" ∷ codes "B" ∷ [];
  outputs = record { name = codes "O"; net = net 4 } ∷ [];
  paused = 3;
  latches = record { init = false; from = net 6 } ∷ [];
  gates = gates;
}

abbrev any_gate : Gate
any_gate = gate (Const true)

one_form_twice : EachFormOnce (with_gates (gate (And (net 0) (net 1)) ∷ gate (And (net 0) (net 1)) ∷ [])) → ⊥
one_form_twice h = let e = h 0 1 any_gate (lit< tt) (lit< tt) refl refl (inl refl) in omega (arith, e)

one_form_turned : EachFormOnce (with_gates (gate (And (net 0) (net 1)) ∷ gate (And (net 1) (net 0)) ∷ [])) → ⊥
one_form_turned h = let e = h 0 1 any_gate (lit< tt) (lit< tt) refl refl (inr refl) in omega (arith, e)

a_double_negation : EachIsReduced (with_gates (gate (Not (net 0)) ∷ gate (Not (net 3)) ∷ [])) → ⊥
a_double_negation h = let e : Copy (net 0) ≡ Not (net 3) = h 1 any_gate (lit< tt) refl in cc

a_copy : NoCopies (with_gates (gate (Copy (net 0)) ∷ [])) → ⊥
a_copy h = h 0 any_gate (lit< tt) refl

no_copies : NoCopies (with_gates (gate (Const true) ∷ gate (Not (net 0)) ∷ gate (And (net 0) (net 1)) ∷ gate (Or (net 0) (net 1)) ∷ []))
no_copies = search rules

a_read_constant : ReadsComputed (with_gates (gate (Const true) ∷ gate (Not (net 3)) ∷ [])) → ⊥
a_read_constant h = h 1 0 any_gate (lit< tt) (lit< tt) refl refl

a_read_copy : ReadsComputed (with_gates (record { op = Copy (net 0); wire = Some (record { 0 = 9 }) } ∷ gate (Or (net 1) (net 3)) ∷ [])) → ⊥
a_read_copy h = h 1 0 any_gate (lit< tt) (lit< tt) refl refl

computed : Computes (Not (net 0)) × Computes (And (net 0) (net 1)) × Computes (Or (net 0) (net 1))
computed = (tt, tt, tt)

a_conjunction_with_itself : ReadsNoneTwice (with_gates (gate (And (net 0) (net 0)) ∷ [])) → ⊥
a_conjunction_with_itself h = h 0 any_gate (lit< tt) refl refl

a_disjunction_with_itself : ReadsNoneTwice (with_gates (gate (Or (net 1) (net 1)) ∷ [])) → ⊥
a_disjunction_with_itself h = h 0 any_gate (lit< tt) refl refl

one_operand : OperandsDiffer (Const true) × OperandsDiffer (Copy (net 0)) × OperandsDiffer (Not (net 0))
one_operand = (tt, tt, tt)

who_reads_4 : map (λ op. reads op 4) (Const true ∷ Copy (net 4) ∷ Copy (net 3) ∷ Not (net 4) ∷ Not (net 3) ∷ And (net 4) (net 3) ∷ And (net 3) (net 4)
    ∷ And (net 3) (net 2) ∷ Or (net 4) (net 3) ∷ Or (net 3) (net 4) ∷ Or (net 3) (net 2) ∷ [])
    ≡ false ∷ true ∷ false ∷ true ∷ false ∷ true ∷ true ∷ false ∷ true ∷ true ∷ false ∷ []
who_reads_4 = refl

abbrev in_each_way : Netlist
in_each_way = with_gates (gate (Not (net 0)) ∷ gate (Not (net 1)) ∷ gate (And (net 0) (net 2)) ∷ gate (Or (net 5) (net 1)) ∷ gate (Not (net 2)) ∷ [])

-- by a gate, by a gate, by a gate, by `paused`, by the output, by a gate, by the latch, and by none
who_is_used : map (is_used in_each_way) (0 ∷ 1 ∷ 2 ∷ 3 ∷ 4 ∷ 5 ∷ 6 ∷ 7 ∷ []) ≡ true ∷ true ∷ true ∷ true ∷ true ∷ true ∷ true ∷ false ∷ []
who_is_used = refl

a_gate_for_none : EachIsUsed in_each_way → ⊥
a_gate_for_none h = true≢false (sym (h 4 any_gate (lit< tt) refl))

-- ---- what a simplified net has in common with the one that it is made from

abbrev carrying : Op → Gate
carrying op = record { op = op; wire = Some (record { 0 = 9 }) }

what_is_carried : carried_values 1 (gate (Const true) ∷ carrying (Const true) ∷ gate (Const true) ∷ carrying (Const true) ∷ [])
    (false ∷ false ∷ true ∷ false ∷ true ∷ []) ≡ true ∷ true ∷ []
what_is_carried = refl

the_same_parts : SameParts in_each_way in_each_way
the_same_parts = record { name = refl; inputs = refl; outputs = refl; latches = refl; carries = refl; fewer = lit≤ tt }

one_gate_more : SameParts (with_gates []) (with_gates (gate (Const true) ∷ [])) → ⊥
one_gate_more h = let few = h.fewer in omega (arith, few)

another_name : SameParts in_each_way (record in_each_way { name = [] }) → ⊥
another_name h = let e = h.name in cc

another_input : SameParts in_each_way (record in_each_way { inputs = codes "A" ∷ [] }) → ⊥
another_input h = let e = h.inputs in cc

another_output : SameParts in_each_way (record in_each_way { outputs = [] }) → ⊥
another_output h = let e = h.outputs in cc

another_start : SameParts in_each_way (record in_each_way { latches = record { init = true; from = net 6 } ∷ [] }) → ⊥
another_start h = let e = h.latches in cc

another_wire : SameParts (with_gates (carrying (Const true) ∷ [])) (with_gates (gate (Const true) ∷ [])) → ⊥
another_wire h = let e = h.carries in cc

another_paused : SameInstants in_each_way (record in_each_way { paused = 4 }) → ⊥
another_paused h = true≢false (ap (λ s. s.paused) (h (false ∷ []) (true ∷ false ∷ []) refl refl).shows)

another_next_value : SameInstants in_each_way (record in_each_way { latches = record { init = false; from = net 4 } ∷ [] }) → ⊥
another_next_value h = true≢false (ap (λ bits. slice_index_or bits 0 false) (h (false ∷ []) (true ∷ false ∷ []) refl refl).next)

-- ---- over items

another_run : SameRuns in_each_way (record in_each_way { paused = 4 }) → ⊥
another_run h = true≢false (ap (λ seen. slice_index_or (map (λ s. s.paused) seen) 0 false) (h (Event (true ∷ false ∷ []) ∷ []) (refl, tt)).shows)

another_carried_value : SameRuns (with_gates (carrying (Const true) ∷ [])) (with_gates (gate (Const true) ∷ [])) → ⊥
another_carried_value h =
    let e : 0 ≡ 1 = ap (λ values. length (slice_index_or values 0 [])) (h (Event (true ∷ false ∷ []) ∷ []) (refl, tt)).carries in
    omega (arith, e)

what_is_simple : (net : Netlist) → IsSimple net
    → EachFormOnce net × EachIsReduced net × NoCopies net × ReadsComputed net × ReadsNoneTwice net × EachIsUsed net
what_is_simple net h = (h.once, h.reduced, h.no_copies, h.reads_computed, h.reads_none_twice, h.used)
