-- One more gate, of the old gates or of both, and two passes one after the other.
use Rattle.std.proofs.Common.{◌≡◌, ℕ, ◌+◌, ◌<◌, ◌≤◌, suc, Bool, false, Option, None, Some, List, [], ◌∷◌, ◌++◌, length, refl, sym, ap, subst, ◌∙◌, arith, inl}
use Rattle.std.proofs.Common.{inr, append_assoc}
use Rattle.std.proofs.lemmas.List.{get_or_append_left, get_or_push, length_push, append-nil}
use Rattle.std.proofs.lemmas.List.Elements.{filter_map-append}
use Rattle.std.proofs.lemmas.Bool.{cases_lt}
use Rattle.std.specs.Option.{option_map}
use Rattle.base_types.specs.declared.indices.WireId.{WireId}
use Rattle.net_ir.specs.declared.netlist.Gate.{Gate}
use Rattle.net_ir.specs.Gates.{operand_end, op_value, value_in, gate_values, carried}
use Rattle.net_ir.proofs.Exports.{ReadsLower-push, carried-silent, gate_values-append, length-gate_values}
use Rattle.net_simp.specs.SameRuns.{carried_value, carried_values}
use Rattle.net_simp.specs.Keeping.{KeepsValues, Any}

gate_values-push : (v : List Bool) (gates : List Gate) (g : Gate)
    → gate_values v (gates ++ g ∷ []) ≡ gate_values v gates ++ op_value (value_in (gate_values v gates)) g.op ∷ []
gate_values-push v gates g = gate_values-append v gates (g ∷ [])

-- the values before one more gate stay
pub value-old : (v : List Bool) (gates : List Gate) (g : Gate) (n : ℕ) → n < length v + length gates
    → value_in (gate_values v (gates ++ g ∷ [])) n ≡ value_in (gate_values v gates) n
value-old v gates g n low =
    let x = op_value (value_in (gate_values v gates)) g.op in
    ap (λ V. value_in V n) (gate_values-push v gates g)
    ∙ get_or_append_left (gate_values v gates) (x ∷ []) false n (omega (arith, length-gate_values v gates))

-- and its own value is what its operator makes of them
pub value-new : (v : List Bool) (gates : List Gate) (g : Gate) (n : ℕ) → n ≡ length v + length gates
    → value_in (gate_values v (gates ++ g ∷ [])) n ≡ op_value (value_in (gate_values v gates)) g.op
value-new v gates g n last =
    let x = op_value (value_in (gate_values v gates)) g.op in
    ap (λ V. value_in V n) (gate_values-push v gates g)
    ∙ get_or_push (gate_values v gates) x false n (omega (arith, length-gate_values v gates))

carried_values-old : (n : ℕ) (gates : List Gate) (V : List Bool) (x : Bool) → n + length gates ≤ length V
    → carried_values n gates (V ++ x ∷ []) ≡ carried_values n gates V
carried_values-old n [] V x low = refl
carried_values-old n (g ∷ gates) V x low =
    let here : value_in (V ++ x ∷ []) n ≡ value_in V n = get_or_append_left V (x ∷ []) false n (omega arith) in
    let rest = carried_values-old (n + 1) gates V x (omega arith) in
    ap (λ b. carried_value g.wire b ++ carried_values (n + 1) gates (V ++ x ∷ [])) here
    ∙ ap (λ xs. carried_value g.wire (value_in V n) ++ xs) rest

carried_values-push : (n : ℕ) (gates : List Gate) (g : Gate) (V : List Bool)
    → carried_values n (gates ++ g ∷ []) V ≡ carried_values n gates V ++ carried_value g.wire (value_in V (n + length gates))
carried_values-push n [] g V =
    let e : n ≡ n + 0 = omega arith in
    append-nil (carried_value g.wire (value_in V n)) ∙ ap (λ k. carried_value g.wire (value_in V k)) e
carried_values-push n (h ∷ gates) g V =
    let e : n + 1 + length gates ≡ n + suc (length gates) = omega arith in
    let A = carried_value h.wire (value_in V n) in
    let C = carried_values (n + 1) gates V in
    ap (λ xs. A ++ xs) (carried_values-push (n + 1) gates g V)
    ∙ sym (append_assoc A C (carried_value g.wire (value_in V (n + 1 + length gates))))
    ∙ ap (λ k. (A ++ C) ++ carried_value g.wire (value_in V k)) e

-- the carried values with one more gate
carried-step : (first : ℕ) (v : List Bool) (gates : List Gate) (g : Gate) → length v ≡ first
    → carried_values first (gates ++ g ∷ []) (gate_values v (gates ++ g ∷ []))
    ≡ carried_values first gates (gate_values v gates) ++ carried_value g.wire (op_value (value_in (gate_values v gates)) g.op)
carried-step first v gates g len =
    let V = gate_values v gates in
    let W = gate_values v (gates ++ g ∷ []) in
    let x = op_value (value_in V) g.op in
    let stays : carried_values first gates W ≡ carried_values first gates V = ap (carried_values first gates) (gate_values-push v gates g)
    ∙ carried_values-old first gates V x (omega (arith, length-gate_values v gates)) in
    let last : value_in W (first + length gates) ≡ x = value-new v gates g (first + length gates) (omega arith) in
    carried_values-push first gates g W ∙ ap (λ xs. xs ++ carried_value g.wire (value_in W (first + length gates))) stays
    ∙ ap (λ b. carried_values first gates V ++ carried_value g.wire b) last

-- no gate yet
pub keeps-start : (first : ℕ) (f : ℕ → ℕ) (Asked : ℕ → Type 0) → ((n : ℕ) → n < first → f n ≡ n) → KeepsValues first [] [] f Asked
keeps-start first f Asked own = record {
  low = λ n h asked. let e = own n (omega arith) in omega arith;
  same = λ v n len h asked. ap (value_in v) (own n (omega arith));
  reads_lower = λ k d h. absurd (omega arith);
  carries = refl;
  carrier_values = λ v len. refl;
  fewer = omega arith;
}

low-step : (first : ℕ) (old new more : List Gate) (f h : ℕ → ℕ) (Asked : ℕ → Type 0) (g : Gate) → KeepsValues first old new f Asked
    → length new ≤ length more
    → ((n : ℕ) → n < first + length old → Asked n → h n ≡ f n)
    → (Asked (first + length old) → h (first + length old) < first + length more)
    → (n : ℕ) → n < first + length (old ++ g ∷ []) → Asked n → h n < first + length more
low-step first old new more f h Asked g k grows agree last n low asked = elim (cases_lt n (first + length old)) [
  | inl before ↦ let a = k.low n before asked in let e = agree n before asked in omega arith
  | inr after ↦
      let e : n ≡ first + length old = omega (arith, length_push old g) in
      subst (λ m. h m < first + length more) (sym e) (last (subst Asked e asked))
]

same-step : (first : ℕ) (old new more : List Gate) (f h : ℕ → ℕ) (Asked : ℕ → Type 0) (g : Gate) → KeepsValues first old new f Asked
    → ((v : List Bool) (n : ℕ) → length v ≡ first → n < first + length new → value_in (gate_values v more) n ≡ value_in (gate_values v new) n)
    → ((n : ℕ) → n < first + length old → Asked n → h n ≡ f n)
    → (Asked (first + length old) → (v : List Bool) → length v ≡ first
    → value_in (gate_values v more) (h (first + length old)) ≡ op_value (value_in (gate_values v old)) g.op)
    → (v : List Bool) (n : ℕ) → length v ≡ first → n < first + length (old ++ g ∷ []) → Asked n
    → value_in (gate_values v more) (h n) ≡ value_in (gate_values v (old ++ g ∷ [])) n
same-step first old new more f h Asked g k stays agree last v n len low asked = elim (cases_lt n (first + length old)) [
  | inl before ↦
      ap (value_in (gate_values v more)) (agree n before asked) ∙ stays v (f n) len (k.low n before asked) ∙ k.same v n len before asked
      ∙ sym (value-old v old g n (omega arith))
  | inr after ↦
      let e : n ≡ first + length old = omega (arith, length_push old g) in
      ap (λ m. value_in (gate_values v more) (h m)) e ∙ last (subst Asked e asked) v len ∙ sym (value-new v old g n (omega arith))
]

-- one more old gate, without a new one
pub keeps-skip : (first : ℕ) (old new : List Gate) (f h : ℕ → ℕ) (Asked : ℕ → Type 0) (g : Gate) → KeepsValues first old new f Asked
    → g.wire ≡ None
    → ((n : ℕ) → n < first + length old → Asked n → h n ≡ f n)
    → (Asked (first + length old) → h (first + length old) < first + length new)
    → (Asked (first + length old) → (v : List Bool) → length v ≡ first
    → value_in (gate_values v new) (h (first + length old)) ≡ op_value (value_in (gate_values v old)) g.op)
    → KeepsValues first (old ++ g ∷ []) new h Asked
keeps-skip first old new f h Asked g k silent agree low last =
    let longer = length_push old g in
    record {
      low = low-step first old new new f h Asked g k (omega arith) agree low;
      same = same-step first old new new f h Asked g k (λ v n len b. refl) agree last;
      reads_lower = k.reads_lower;
      carries = k.carries ∙ sym (carried-silent old g silent);
      carrier_values = λ v len. k.carrier_values v len
          ∙ sym (append-nil (carried_values first old (gate_values v old)))
          ∙ ap (λ w. carried_values first old (gate_values v old) ++ carried_value w (op_value (value_in (gate_values v old)) g.op)) (sym silent)
          ∙ sym (carried-step first v old g len);
      fewer = omega (arith, k.fewer);
    }

-- one more old gate and one more new one, of its value and with its wire
pub keeps-push : (first : ℕ) (old new : List Gate) (f h : ℕ → ℕ) (Asked : ℕ → Type 0) (g x : Gate) → KeepsValues first old new f Asked
    → x.wire ≡ g.wire
    → operand_end x.op ≤ first + length new
    → ((v : List Bool) → length v ≡ first → op_value (value_in (gate_values v new)) x.op ≡ op_value (value_in (gate_values v old)) g.op)
    → ((n : ℕ) → n < first + length old → Asked n → h n ≡ f n)
    → (Asked (first + length old) → h (first + length old) < first + length new + 1)
    → (Asked (first + length old) → (v : List Bool) → length v ≡ first
    → value_in (gate_values v (new ++ x ∷ [])) (h (first + length old)) ≡ op_value (value_in (gate_values v new)) x.op)
    → KeepsValues first (old ++ g ∷ []) (new ++ x ∷ []) h Asked
keeps-push first old new f h Asked g x k wires low says agree fits last =
    let wire_of = λ (y : Gate). option_map (λ (w : WireId). w.0) y.wire in
    let longer = length_push old g in
    let longer_too = length_push new x in
    record {
      low = low-step first old new (new ++ x ∷ []) f h Asked g k (omega arith) agree (λ asked. let a = fits asked in omega arith);
      same = same-step first old new (new ++ x ∷ []) f h Asked g k (λ v n len b. value-old v new x n (omega arith)) agree
          (λ asked v len. last asked v len ∙ says v len);
      reads_lower = ReadsLower-push first new x k.reads_lower low;
      carries = filter_map-append wire_of new (x ∷ []) ∙ ap (λ xs. xs ++ carried (x ∷ [])) k.carries
          ∙ ap (λ w. carried old ++ carried (record { op = x.op; wire = w } ∷ [])) wires
          ∙ sym (filter_map-append wire_of old (g ∷ []));
      carrier_values = λ v len. carried-step first v new x len
          ∙ ap (λ xs. xs ++ carried_value x.wire (op_value (value_in (gate_values v new)) x.op)) (k.carrier_values v len)
          ∙ ap (λ b. carried_values first old (gate_values v old) ++ carried_value x.wire b) (says v len)
          ∙ ap (λ w. carried_values first old (gate_values v old) ++ carried_value w (op_value (value_in (gate_values v old)) g.op)) wires
          ∙ sym (carried-step first v old g len);
      fewer = omega (arith, k.fewer);
    }

-- one pass and then another
pub keeps-trans : (first : ℕ) (old mid new : List Gate) (f h : ℕ → ℕ) (Asked : ℕ → Type 0)
    → KeepsValues first old mid f Any → KeepsValues first mid new h Asked → KeepsValues first old new (λ n. h (f n)) (λ n. Asked (f n))
keeps-trans first old mid new f h Asked a b = record {
  low = λ n low asked. b.low (f n) (a.low n low tt) asked;
  same = λ v n len low asked. b.same v (f n) len (a.low n low tt) asked ∙ a.same v n len low tt;
  reads_lower = b.reads_lower;
  carries = b.carries ∙ a.carries;
  carrier_values = λ v len. b.carrier_values v len ∙ a.carrier_values v len;
  fewer = omega (arith, a.fewer, b.fewer);
}
