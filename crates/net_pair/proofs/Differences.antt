-- Values of gates that compare nets.
use Rattle.std.proofs.Common.{◌≡◌, ◌<◌, ◌≤◌, ◌+◌, ◌*◌, ℕ, zero, suc, Bool, false, true, not, ◌&&◌, ◌||◌, List, [], ◌∷◌, ◌++◌, length, map, get_or, refl, sym}
use Rattle.std.proofs.Common.{ap, ◌∙◌, arith, All}
use Rattle.std.proofs.lemmas.List.{length-append, map-append}
use Rattle.net_ir.specs.declared.netlist.Gate.{Gate}
use Rattle.net_ir.specs.declared.netlist.NetOut.{NetOut}
use Rattle.net_ir.specs.Gates.{ReadsLower, Solves, op_value, operand_end, value_in}
use Rattle.net_ir.specs.Netlists.{Netlist}
use Rattle.net_ir.proofs.Exports.{any_gate}
use Rattle.net_pair.specs.Pairs.{any_differ, is_one}
use Rattle.net_pair.specs.Layout.{both_nets, compared_nets, compared_outputs, comparison, comparisons}
use Rattle.net_pair.specs.declared.comparing.Both.{Both}
use Rattle.net_pair.proofs.MovedGates.{Solves-right}

pub length-comparisons : (last : ℕ) (pairs : List Both) → length (comparisons last pairs) ≡ 5 * length pairs
length-comparisons last [] = omega arith
length-comparisons last (b ∷ pairs) = let more = length-comparisons (last + 5) pairs in omega arith

one-or : (before left right a b c d e : Bool) → a ≡ (left || right) → b ≡ (left && right) → c ≡ not b → d ≡ (a && c) → e ≡ (before || d)
    → e ≡ (before || is_one left right)
one-or before left right a b c d e is-a is-b is-c is-d is-e = cc

-- the last of the gates is true where two nets differ
pub compared : (v : List Bool) (last : ℕ) (pairs : List Both) → Solves (last + 1) (comparisons last pairs) v
    → value_in v (last + 5 * length pairs)
    ≡ any_differ (value_in v last) (map (λ b. value_in v b.left.0) pairs) (map (λ b. value_in v b.right.0) pairs)
compared v last [] solves = let e : last + 5 * 0 ≡ last = omega arith in ap (value_in v) e
compared v last (b ∷ pairs) solves =
    let at1 : last + 1 ≡ last + 1 + 0 = omega arith in
    let at2 : last + 2 ≡ last + 1 + 1 = omega arith in
    let at3 : last + 3 ≡ last + 1 + 2 = omega arith in
    let at4 : last + 4 ≡ last + 1 + 3 = omega arith in
    let at5 : last + 5 ≡ last + 1 + 4 = omega arith in
    let here = one-or (value_in v last) (value_in v b.left.0) (value_in v b.right.0)
    (value_in v (last + 1)) (value_in v (last + 2)) (value_in v (last + 3)) (value_in v (last + 4)) (value_in v (last + 5))
    (ap (value_in v) at1 ∙ solves 0 any_gate (omega arith))
    (ap (value_in v) at2 ∙ solves 1 any_gate (omega arith))
    (ap (value_in v) at3 ∙ solves 2 any_gate (omega arith))
    (ap (value_in v) at4 ∙ solves 3 any_gate (omega arith))
    (ap (value_in v) at5 ∙ solves 4 any_gate (omega arith)) in
    let next : last + 5 + 1 ≡ last + 1 + length (comparison last b) = omega arith in
    let rest = compared v (last + 5) pairs (Solves-right (last + 1) (last + 5 + 1) (comparison last b) (comparisons (last + 5) pairs) v next solves) in
    let at : last + 5 * length (b ∷ pairs) ≡ last + 5 + 5 * length pairs = omega arith in
    ap (value_in v) at ∙ rest
    ∙ ap (λ x. any_differ x (map (λ (c : Both). value_in v c.left.0) pairs) (map (λ (c : Both). value_in v c.right.0) pairs)) here

pub length-compared : (f g : ℕ → ℕ) (os ps : List NetOut) → length os ≡ length ps → length (compared_outputs f g os ps) ≡ length os
length-compared f g [] ps e = refl
length-compared f g (o ∷ os) [] e = absurd (omega arith)
length-compared f g (o ∷ os) (p ∷ ps) e = ap suc (length-compared f g os ps (omega arith))

pub length-pairs : (f g : ℕ → ℕ) (a b : Netlist) → length a.outputs ≡ length b.outputs → length (compared_nets f g a b) ≡ length a.outputs + 1
length-pairs f g a b same =
    let os = compared_outputs f g a.outputs b.outputs in
    let last = both_nets (f a.paused) (g b.paused) ∷ [] in
    omega (arith, length-append os last, length-compared f g a.outputs b.outputs same)

-- the values of the outputs that are compared
pub compared-left : (f g : ℕ → ℕ) (v u : List Bool) (end : ℕ) (os ps : List NetOut) → length os ≡ length ps → All (λ o. o.net.0 < end) os
    → ((n : ℕ) → n < end → value_in v (f n) ≡ value_in u n)
    → map (λ (b : Both). value_in v b.left.0) (compared_outputs f g os ps) ≡ map (λ (o : NetOut). value_in u o.net.0) os
compared-left f g v u end [] ps e low same = refl
compared-left f g v u end (o ∷ os) [] e low same = absurd (omega arith)
compared-left f g v u end (o ∷ os) (p ∷ ps) e low same =
    let here = same o.net.0 (low 0 o (omega arith)) in
    let rest = compared-left f g v u end os ps (omega arith) (λ k d h. low (suc k) d (omega arith)) same in
    λ i. here i ∷ rest i

pub compared-right : (f g : ℕ → ℕ) (v u : List Bool) (end : ℕ) (os ps : List NetOut) → length os ≡ length ps → All (λ o. o.net.0 < end) ps
    → ((n : ℕ) → n < end → value_in v (g n) ≡ value_in u n)
    → map (λ (b : Both). value_in v b.right.0) (compared_outputs f g os ps) ≡ map (λ (o : NetOut). value_in u o.net.0) ps
compared-right f g v u end [] [] e low same = refl
compared-right f g v u end [] (p ∷ ps) e low same = absurd (omega arith)
compared-right f g v u end (o ∷ os) [] e low same = absurd (omega arith)
compared-right f g v u end (o ∷ os) (p ∷ ps) e low same =
    let here = same p.net.0 (low 0 p (omega arith)) in
    let rest = compared-right f g v u end os ps (omega arith) (λ k d h. low (suc k) d (omega arith)) same in
    λ i. here i ∷ rest i

-- the gates that compare read lower nets
pub comparisons-read : (start last : ℕ) (pairs : List Both) → last + 1 ≡ start → All (λ b. b.left.0 < start) pairs → All (λ b. b.right.0 < start) pairs
    → ReadsLower start (comparisons last pairs)
comparisons-read start last [] is left right = λ k d h. absurd (omega arith)
comparisons-read start last (b ∷ pairs) is left right =
    let l = left 0 b (omega arith) in
    let r = right 0 b (omega arith) in
    let more = comparisons-read (start + 5) (last + 5) pairs (omega arith)
    (λ k d h. let low = left (suc k) d (omega arith) in omega arith) (λ k d h. let low = right (suc k) d (omega arith) in omega arith) in
    λ k d h. by_place more l r k d h
  where
    by_place : ReadsLower (start + 5) (comparisons (last + 5) pairs) → b.left.0 < start → b.right.0 < start → (k : ℕ) (d : Gate)
        → k < length (comparisons last (b ∷ pairs)) → operand_end (get_or (comparisons last (b ∷ pairs)) k d).op ≤ start + k
    by_place more l r zero d h = omega arith
    by_place more l r (suc zero) d h = omega arith
    by_place more l r (suc (suc zero)) d h = omega arith
    by_place more l r (suc (suc (suc zero))) d h = omega arith
    by_place more l r (suc (suc (suc (suc zero)))) d h = omega arith
    by_place more l r (suc (suc (suc (suc (suc k))))) d h = let low = more k d (omega arith) in omega arith
