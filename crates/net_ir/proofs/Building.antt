-- For whoever builds a net: what a push, or an append, keeps.
use Rattle.std.proofs.Common.{◌≡◌, ℕ, ◌+◌, ◌≤◌, suc, Bool, true, false, not, ◌&&◌, ◌||◌, List, [], ◌∷◌, ◌++◌, length, refl, arith, Some, None, IsTrue}
use Rattle.std.proofs.Common.{All}
use Rattle.std.specs.List.{list_any}
use Rattle.std.specs.Option.{option_map}
use Rattle.std.proofs.lemmas.List.{append-nil}
use Rattle.std.proofs.lemmas.List.Folds.{list_any-append}
use Rattle.std.proofs.lemmas.Grind.{elements}
use Rattle.std.proofs.lemmas.List.Elements.{filter_map-append}
use Rattle.base_types.specs.declared.indices.WireId.{WireId}
use Rattle.net_ir.specs.declared.netlist.Gate.{Gate}
use Rattle.base_types.specs.Distinct.{all_differ, none_shared}
use Rattle.net_ir.specs.Gates.{operand_end, ReadsLower, carried}

and_assoc3 : (a b c d e : Bool) → (not (a || b) && (c && d && e)) ≡ ((not a && c) && (not b && d) && e)
and_assoc3 true b c d e = refl
and_assoc3 false true true d e = refl
and_assoc3 false true false d e = refl
and_assoc3 false false c d e = refl

-- the elements of two lists differ where those of each do, and none stands in both
pub all_differ-append : {X : Type 0} (same : X → X → Bool) (xs ys : List X)
    → all_differ same (xs ++ ys) ≡ (all_differ same xs && none_shared same xs ys && all_differ same ys)
all_differ-append same [] ys = refl
all_differ-append same (x ∷ xs) ys =
    let e = list_any-append (same x) xs ys in
    let more = all_differ-append same xs ys in
    let sorted = and_assoc3 (list_any (same x) xs) (list_any (same x) ys) (all_differ same xs) (none_shared same xs ys) (all_differ same ys) in
    cc

none_shared-one : {X : Type 0} (same : X → X → Bool) (xs : List X) (y : X) → All (λ x. same x y ≡ false) xs → none_shared same xs (y ∷ []) ≡ true
none_shared-one same [] y apart = refl
none_shared-one same (x ∷ xs) y apart =
    let here : same x y ≡ false = apart 0 x (omega arith) in
    let rest = none_shared-one same xs y (λ k d h. apart (suc k) d (omega arith)) in
    rw (here, rest) refl

-- one more element, which is none of those before it
pub all_differ-push : {X : Type 0} (same : X → X → Bool) (xs : List X) (y : X) → IsTrue (all_differ same xs) → All (λ x. same x y ≡ false) xs
    → IsTrue (all_differ same (xs ++ y ∷ []))
all_differ-push same xs y differ apart =
    rw (all_differ-append same xs (y ∷ []), differ, none_shared-one same xs y apart) refl

-- one more gate, which reads lower nets
pub ReadsLower-push : (start : ℕ) (gates : List Gate) (g : Gate) → ReadsLower start gates → operand_end g.op ≤ start + length gates
    → ReadsLower start (gates ++ g ∷ [])
ReadsLower-push start gates g reads low = grind (arith, elements)

-- one more gate, which carries no wire
pub carried-silent : (gates : List Gate) (g : Gate) → g.wire ≡ None → carried (gates ++ g ∷ []) ≡ carried gates
carried-silent gates g none =
    rw (filter_map-append (λ (h : Gate). option_map (λ (w : WireId). w.0) h.wire) gates (g ∷ []), none) (append-nil (carried gates))

-- one more gate, which carries a wire
pub carried-push : (gates : List Gate) (g : Gate) (w : WireId) → g.wire ≡ Some w → carried (gates ++ g ∷ []) ≡ carried gates ++ w.0 ∷ []
carried-push gates g w some =
    rw (filter_map-append (λ (h : Gate). option_map (λ (v : WireId). v.0) h.wire) gates (g ∷ []), some) refl
