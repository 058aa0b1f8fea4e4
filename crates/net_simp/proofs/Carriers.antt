-- For whoever takes a simplified netlist up: gates of the two netlists that carry the same wire have the same value.
use Rattle.std.proofs.Common.{◌≡◌, ℕ, ◌+◌, ◌<◌, zero, suc, Bool, false, Option, None, Some, List, [], ◌∷◌, ◌++◌, length, slice_index_or, refl, sym, ap, subst}
use Rattle.std.proofs.Common.{◌∙◌, arith}
use Rattle.base_types.specs.declared.indices.WireId.{WireId}
use Rattle.net_ir.specs.declared.netlist.Gate.{Gate}
use Rattle.net_ir.specs.Gates.{value_in, carried}
use Rattle.net_simp.specs.SameRuns.{carried_value, carried_values}

-- a gate that carries the wire, with its value, where the first gate has the number n
pub record Carrier (n : ℕ) (gates : List Gate) (values : List Bool) (w : WireId) (b : Bool) : Type 0 where
  pub at : ℕ
  pub within : at < length gates
  pub wire : (d : Gate) → (slice_index_or gates at d).wire ≡ Some w
  pub value : value_in values (n + at) ≡ b

-- the wire and the value at one place of two lists
record Listed (ws : List ℕ) (bs : List Bool) (w : ℕ) (b : Bool) : Type 0 where
  place : ℕ
  within : place < length ws
  wire : slice_index_or ws place 0 ≡ w
  value : slice_index_or bs place false ≡ b

abbrev with_wire : Option WireId → List ℕ → List ℕ
with_wire None ws = ws
with_wire (Some w) ws = w.0 ∷ ws

carried-cons : (g : Gate) (gates : List Gate) (wire : Option WireId) → g.wire ≡ wire → carried (g ∷ gates) ≡ with_wire wire (carried gates)
carried-cons g gates None e = rw e refl
carried-cons g gates (Some w) e = rw e refl

listed-later : (wire : Option WireId) (ws : List ℕ) (bs : List Bool) (w : ℕ) (b x : Bool) → Listed ws bs w b
    → Listed (with_wire wire ws) (carried_value wire x ++ bs) w b
listed-later None ws bs w b x l = l
listed-later (Some v) ws bs w b x l = record { place = suc l.place; within = let h = l.within in omega arith; wire = l.wire; value = l.value }

listed : (n : ℕ) (gates : List Gate) (values : List Bool) (k : ℕ) (d : Gate) (w : WireId) → k < length gates
    → (slice_index_or gates k d).wire ≡ Some w → Listed (carried gates) (carried_values n gates values) w.0 (value_in values (n + k))
listed n [] values k d w low e = absurd (omega arith)
listed n (g ∷ gates) values zero d w low e =
    let here : n ≡ n + 0 = omega arith in
    subst (λ ws. Listed ws (carried_values n (g ∷ gates) values) w.0 (value_in values (n + 0))) (sym (carried-cons g gates (Some w) e))
    (subst (λ v. Listed (w.0 ∷ carried gates) (carried_value v (value_in values n) ++ carried_values (n + 1) gates values) w.0 (value_in values (n + 0)))
    (sym e)
    (record { place = 0; within = omega arith; wire = refl; value = ap (value_in values) here }))
listed n (g ∷ gates) values (suc k) d w low e =
    let there : n + 1 + k ≡ n + suc k = omega arith in
    let l = subst (λ m. Listed (carried gates) (carried_values (n + 1) gates values) w.0 (value_in values m)) there
    (listed (n + 1) gates values k d w (omega arith) e) in
    subst (λ ws. Listed ws (carried_values n (g ∷ gates) values) w.0 (value_in values (n + suc k))) (sym (carried-cons g gates g.wire refl))
    (listed-later g.wire (carried gates) (carried_values (n + 1) gates values) w.0 (value_in values (n + suc k)) (value_in values n) l)

carrier-later : (n : ℕ) (g : Gate) (gates : List Gate) (values : List Bool) (w : WireId) (b : Bool) → Carrier (n + 1) gates values w b
    → Carrier n (g ∷ gates) values w b
carrier-later n g gates values w b c = record {
  at = suc c.at;
  within = let h = c.within in omega arith;
  wire = λ d. c.wire d;
  value = let e : n + suc c.at ≡ n + 1 + c.at = omega arith in ap (value_in values) e ∙ c.value;
}

carrier-cons : (n : ℕ) (g : Gate) (gates : List Gate) (values : List Bool) (p : ℕ) (w : WireId) (b : Bool) (wire : Option WireId) → g.wire ≡ wire
    → p < length (with_wire wire (carried gates))
    → slice_index_or (with_wire wire (carried gates)) p 0 ≡ w.0
    → slice_index_or (carried_value wire (value_in values n) ++ carried_values (n + 1) gates values) p false ≡ b
    → ((p : ℕ) → p < length (carried gates) → slice_index_or (carried gates) p 0 ≡ w.0
    → slice_index_or (carried_values (n + 1) gates values) p false ≡ b → Carrier (n + 1) gates values w b)
    → Carrier n (g ∷ gates) values w b
carrier-cons n g gates values p w b None e low is says rest = carrier-later n g gates values w b (rest p low is says)
carrier-cons n g gates values zero w b (Some v) e low is says rest = record {
  at = 0;
  within = omega arith;
  wire = λ d. e ∙ ap (λ i. Some (record { 0 = i })) is;
  value = let here : n + 0 ≡ n = omega arith in ap (value_in values) here ∙ says;
}
carrier-cons n g gates values (suc p) w b (Some v) e low is says rest = carrier-later n g gates values w b (rest p (omega arith) is says)

carrier-at : (n : ℕ) (gates : List Gate) (values : List Bool) (p : ℕ) (w : WireId) (b : Bool) → p < length (carried gates)
    → slice_index_or (carried gates) p 0 ≡ w.0 → slice_index_or (carried_values n gates values) p false ≡ b
    → Carrier n gates values w b
carrier-at n [] values p w b low is says = absurd (omega arith)
carrier-at n (g ∷ gates) values p w b low is says =
    let cons = carried-cons g gates g.wire refl in
    carrier-cons n g gates values p w b g.wire refl (subst (λ ws. p < length ws) cons low) (sym (ap (λ ws. slice_index_or ws p 0) cons) ∙ is) says
    (λ q. carrier-at (n + 1) gates values q w b)

-- where two netlists' gates carry the same wires with the same values, in order
pub carrier : (n m : ℕ) (old new : List Gate) (old_values new_values : List Bool) → carried new ≡ carried old
    → carried_values m new new_values ≡ carried_values n old old_values
    → (k : ℕ) (d : Gate) (w : WireId) → k < length new → (slice_index_or new k d).wire ≡ Some w
    → Carrier n old old_values w (value_in new_values (m + k))
carrier n m old new old_values new_values wires values k d w low e =
    let l = listed m new new_values k d w low e in
    carrier-at n old old_values l.place w (value_in new_values (m + k)) (subst (λ ws. l.place < length ws) wires l.within)
    (sym (ap (λ ws. slice_index_or ws l.place 0) wires) ∙ l.wire) (sym (ap (λ bs. slice_index_or bs l.place false) values) ∙ l.value)
