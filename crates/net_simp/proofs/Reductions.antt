-- The rules keep values, and leave nothing that they make less.
use Rattle.std.proofs.Common.{◌≡◌, ℕ, ◌+◌, ◌-◌, ◌<◌, ◌≤◌, Bool, true, false, not, ◌&&◌, ◌||◌, ◌==◌, if◌then◌else◌, Option, None, Some, List, [], ◌∷◌, ◌++◌}
use Rattle.std.proofs.Common.{length, slice_index_or, refl, sym, ap, subst, ◌∙◌, arith, inl, inr}
use Rattle.std.specs.Prelude.{nat_lt, ⊤}
use Rattle.std.proofs.lemmas.List.{get_or_append_left, get_or_default}
use Rattle.std.proofs.lemmas.Bool.{eqb-true, eq-eqb, or_cases, or_left, or_right, or_parts, and_parts, both_ways, false≢true, true≢false, cases_lt, lt-ltb}
use Rattle.std.proofs.lemmas.Bool.{le-ltb, ltb-false, cases_Bool}
use Rattle.base_types.specs.declared.indices.NetId.{NetId}
use Rattle.net_ir.specs.declared.netlist.Op.{Op}
use Rattle.net_ir.specs.declared.netlist.Op.TheVariants.{Const, Copy, Not, And, Or}
use Rattle.net_ir.specs.declared.netlist.Gate.{Gate}
use Rattle.net_ir.specs.Gates.{operand_end, ReadsLower, op_value, value_in, gate_values}
use Rattle.net_ir.proofs.Exports.{Solves-gate_values}
use Rattle.net_simp.specs.SimpleNets.{reads}
use Rattle.net_simp.specs.Rules.{op_at, is_low, is_high, negates, implies, are_opposite, negation, and_by, or_by, reduced_op}
use Rattle.net_simp.specs.Drafts.{no_copy, computes, Settled, outright_op}

abbrev pub idle : Gate
idle = record { op = Const false; wire = None }

abbrev chosen : Bool → Op → Option Op
chosen b op = if b then None else Some op

picked : (b : Bool) (o op : Op) → chosen b o ≡ Some op → (b ≡ false) × (o ≡ op)
picked true o op e = cc
picked false o op e = (refl, cc)

-- the gate of a net
pub record AtGate (first : ℕ) (gates : List Gate) (n : ℕ) (op : Op) : Type 0 where
  pub k : ℕ
  pub place : n ≡ first + k
  pub within : k < length gates
  pub is : (d : Gate) → (slice_index_or gates k d).op ≡ op

pub op_at-gate : (first : ℕ) (gates : List Gate) (n : ℕ) (op : Op) → n < first + length gates → op_at first gates n ≡ Some op → AtGate first gates n op
op_at-gate first gates n op low e =
    let p = picked (nat_lt n first) (slice_index_or gates (n - first) idle).op op e in
    let over : first ≤ n = ltb-false n first p.0 in
    record {
      k = n - first;
      place = omega arith;
      within = omega arith;
      is = λ d. ap (λ (g : Gate). g.op) (get_or_default gates (n - first) d idle (omega arith)) ∙ p.1;
    }

pub op_at-is : (first : ℕ) (gates : List Gate) (n k : ℕ) (d : Gate) → n ≡ first + k → k < length gates
    → op_at first gates n ≡ Some (slice_index_or gates k d).op
op_at-is first gates n k d place low =
    let over : nat_lt n first ≡ false = le-ltb n first (omega arith) in
    let e : n - first ≡ k = omega arith in
    ap (λ b. chosen b (slice_index_or gates (n - first) idle).op) over
    ∙ ap (λ j. Some (slice_index_or gates j idle).op) e
    ∙ ap (λ (g : Gate). Some g.op) (get_or_default gates k idle d low)

-- one more gate
pub op_at-old : (first : ℕ) (gates : List Gate) (g : Gate) (n : ℕ) → n < first + length gates → op_at first (gates ++ g ∷ []) n ≡ op_at first gates n
op_at-old first gates g n low = elim (cases_lt n first) [
  | inl below ↦
      let e : nat_lt n first ≡ true = lt-ltb n first below in
      ap (λ b. chosen b (slice_index_or (gates ++ g ∷ []) (n - first) idle).op) e
      ∙ sym (ap (λ b. chosen b (slice_index_or gates (n - first) idle).op) e)
  | inr over ↦
      ap (λ (x : Gate). chosen (nat_lt n first) x.op) (get_or_append_left gates (g ∷ []) idle (n - first) (omega arith))
]

-- ---- values

-- what a net's gate says of its value
abbrev pub Says : (ℕ → Bool) → Option Op → ℕ → Type 0
Says V o n = (op : Op) → o ≡ Some op → V n ≡ op_value V op

pub op_at-says : (first : ℕ) (gates : List Gate) (v : List Bool) (n : ℕ) → ReadsLower first gates → length v ≡ first → n < first + length gates
    → Says (value_in (gate_values v gates)) (op_at first gates n) n
op_at-says first gates v n reads len low = λ op e.
    let g = op_at-gate first gates n op low e in
    let V = value_in (gate_values v gates) in
    ap V g.place ∙ Solves-gate_values first v gates len reads g.k idle g.within ∙ ap (op_value V) (g.is idle)

low-true : (V : ℕ → Bool) (o : Option Op) (m n : ℕ) → Says V o m → is_low o n ≡ true → V m ≡ true → V n ≡ true
low-true V None m n says low is_true = absurd (false≢true low)
low-true V (Some (Const true)) m n says low is_true = absurd (false≢true low)
low-true V (Some (Const false)) m n says low is_true = absurd (both_ways (V m) (says (Const false) refl) is_true)
low-true V (Some (Copy a)) m n says low is_true = absurd (false≢true low)
low-true V (Some (Not a)) m n says low is_true = absurd (false≢true low)
low-true V (Some (Or a b)) m n says low is_true = absurd (false≢true low)
low-true V (Some (And a b)) m n says low is_true =
    let both = and_parts (V a.0) (V b.0) (sym (says (And a b) refl) ∙ is_true) in
    elim (or_cases (a.0 == n) (b.0 == n) low) [
      | inl is ↦ sym (ap V (eqb-true a.0 n is)) ∙ both.0
      | inr is ↦ sym (ap V (eqb-true b.0 n is)) ∙ both.1
    ]

high-true : (V : ℕ → Bool) (o : Option Op) (m n : ℕ) → Says V o n → is_high o m ≡ true → V m ≡ true → V n ≡ true
high-true V None m n says high is_true = absurd (false≢true high)
high-true V (Some (Const true)) m n says high is_true = says (Const true) refl
high-true V (Some (Const false)) m n says high is_true = absurd (false≢true high)
high-true V (Some (Copy a)) m n says high is_true = absurd (false≢true high)
high-true V (Some (Not a)) m n says high is_true = absurd (false≢true high)
high-true V (Some (And a b)) m n says high is_true = absurd (false≢true high)
high-true V (Some (Or a b)) m n says high is_true =
    elim (or_cases (a.0 == m) (b.0 == m) high) [
      | inl is ↦ says (Or a b) refl ∙ or_left (V a.0) (V b.0) (ap V (eqb-true a.0 m is) ∙ is_true)
      | inr is ↦ says (Or a b) refl ∙ or_right (V a.0) (V b.0) (ap V (eqb-true b.0 m is) ∙ is_true)
    ]

implies-true : (V : ℕ → Bool) (first : ℕ) (gates : List Gate) (m n : ℕ) → Says V (op_at first gates m) m → Says V (op_at first gates n) n
    → implies first gates m n ≡ true → V m ≡ true → V n ≡ true
implies-true V first gates m n here there holds is_true =
    elim (or_cases (m == n || is_low (op_at first gates m) n) (is_high (op_at first gates n) m) holds) [
      | inl other ↦ elim (or_cases (m == n) (is_low (op_at first gates m) n) other) [
        | inl same ↦ sym (ap V (eqb-true m n same)) ∙ is_true
        | inr low ↦ low-true V (op_at first gates m) m n here low is_true
      ]
      | inr high ↦ high-true V (op_at first gates n) m n there high is_true
    ]

negates-true : (V : ℕ → Bool) (o : Option Op) (m n : ℕ) → Says V o m → negates o n ≡ true → V m ≡ not (V n)
negates-true V None m n says is_true = absurd (false≢true is_true)
negates-true V (Some (Const b)) m n says is_true = absurd (false≢true is_true)
negates-true V (Some (Copy a)) m n says is_true = absurd (false≢true is_true)
negates-true V (Some (Not a)) m n says is_true = says (Not a) refl ∙ ap (λ k. not (V k)) (eqb-true a.0 n is_true)
negates-true V (Some (And a b)) m n says is_true = absurd (false≢true is_true)
negates-true V (Some (Or a b)) m n says is_true = absurd (false≢true is_true)

not-turned : (x y : Bool) → x ≡ not y → y ≡ not x
not-turned x true e = sym (ap not e)
not-turned x false e = sym (ap not e)

opposite-true : (V : ℕ → Bool) (first : ℕ) (gates : List Gate) (m n : ℕ) → Says V (op_at first gates m) m → Says V (op_at first gates n) n
    → are_opposite first gates m n ≡ true → V m ≡ not (V n)
opposite-true V first gates m n here there holds =
    elim (or_cases (negates (op_at first gates m) n) (negates (op_at first gates n) m) holds) [
      | inl is_true ↦ negates-true V (op_at first gates m) m n here is_true
      | inr is_true ↦ not-turned (V n) (V m) (negates-true V (op_at first gates n) n m there is_true)
    ]

and-opposite : (x y : Bool) → x ≡ not y → false ≡ (x && y)
and-opposite true true e = sym e
and-opposite true false e = refl
and-opposite false y e = refl

or-opposite : (x y : Bool) → x ≡ not y → true ≡ (x || y)
or-opposite true y e = refl
or-opposite false true e = refl
or-opposite false false e = sym e

and-first : (x y : Bool) → (x ≡ true → y ≡ true) → x ≡ (x && y)
and-first true y up = sym (up refl)
and-first false y up = refl

and-second : (x y : Bool) → (y ≡ true → x ≡ true) → y ≡ (x && y)
and-second true y down = refl
and-second false true down = sym (down refl)
and-second false false down = refl

or-second : (x y : Bool) → (x ≡ true → y ≡ true) → y ≡ (x || y)
or-second true y up = up refl
or-second false y up = refl

or-first : (x y : Bool) → (y ≡ true → x ≡ true) → x ≡ (x || y)
or-first true y down = refl
or-first false true down = down refl
or-first false false down = refl

and-value : (V : ℕ → Bool) (opposite up down : Bool) (m n : NetId) → (opposite ≡ true → V m.0 ≡ not (V n.0))
    → (up ≡ true → V m.0 ≡ true → V n.0 ≡ true) → (down ≡ true → V n.0 ≡ true → V m.0 ≡ true)
    → op_value V (and_by opposite up down m n) ≡ (V m.0 && V n.0)
and-value V true up down m n a b c = and-opposite (V m.0) (V n.0) (a refl)
and-value V false true down m n a b c = and-first (V m.0) (V n.0) (b refl)
and-value V false false true m n a b c = and-second (V m.0) (V n.0) (c refl)
and-value V false false false m n a b c = refl

or-value : (V : ℕ → Bool) (opposite up down : Bool) (m n : NetId) → (opposite ≡ true → V m.0 ≡ not (V n.0))
    → (up ≡ true → V m.0 ≡ true → V n.0 ≡ true) → (down ≡ true → V n.0 ≡ true → V m.0 ≡ true)
    → op_value V (or_by opposite up down m n) ≡ (V m.0 || V n.0)
or-value V true up down m n a b c = or-opposite (V m.0) (V n.0) (a refl)
or-value V false true down m n a b c = or-second (V m.0) (V n.0) (b refl)
or-value V false false true m n a b c = or-first (V m.0) (V n.0) (c refl)
or-value V false false false m n a b c = refl

negation-value : (V : ℕ → Bool) (o : Option Op) (n : NetId) → Says V o n.0 → op_value V (negation o n) ≡ not (V n.0)
negation-value V None n says = refl
negation-value V (Some (Const b)) n says = ap not (sym (says (Const b) refl))
negation-value V (Some (Copy a)) n says = refl
negation-value V (Some (Not a)) n says = not-turned (V n.0) (V a.0) (says (Not a) refl)
negation-value V (Some (And a b)) n says = refl
negation-value V (Some (Or a b)) n says = refl

pub reduced-value : (V : ℕ → Bool) (first : ℕ) (gates : List Gate) (op : Op) → operand_end op ≤ first + length gates
    → ((n : ℕ) → n < first + length gates → Says V (op_at first gates n) n)
    → op_value V (reduced_op first gates op) ≡ op_value V op
reduced-value V first gates (Const b) low says = refl
reduced-value V first gates (Copy n) low says = refl
reduced-value V first gates (Not n) low says = negation-value V (op_at first gates n.0) n (says n.0 (omega arith))
reduced-value V first gates (And m n) low says =
    let here = says m.0 (omega arith) in
    let there = says n.0 (omega arith) in
    and-value V (are_opposite first gates m.0 n.0) (implies first gates m.0 n.0) (implies first gates n.0 m.0) m n
    (opposite-true V first gates m.0 n.0 here there) (implies-true V first gates m.0 n.0 here there) (implies-true V first gates n.0 m.0 there here)
reduced-value V first gates (Or m n) low says =
    let here = says m.0 (omega arith) in
    let there = says n.0 (omega arith) in
    or-value V (are_opposite first gates m.0 n.0) (implies first gates m.0 n.0) (implies first gates n.0 m.0) m n
    (opposite-true V first gates m.0 n.0 here there) (implies-true V first gates m.0 n.0 here there) (implies-true V first gates n.0 m.0 there here)

pub outright-value : (V : ℕ → Bool) (o : Option Op) (n : NetId) → Says V o n.0 → op_value V (outright_op o n) ≡ V n.0
outright-value V None n says = refl
outright-value V (Some (Const b)) n says = sym (says (Const b) refl)
outright-value V (Some (Copy a)) n says = refl
outright-value V (Some (Not a)) n says = refl
outright-value V (Some (And a b)) n says = refl
outright-value V (Some (Or a b)) n says = refl

-- ---- what is left

computes-left : (o : Option Op) (n : ℕ) → no_copy o → is_low o n ≡ false → is_high o n ≡ false → computes o
computes-left None n c low high = tt
computes-left (Some (Const true)) n c low high = true≢false high
computes-left (Some (Const false)) n c low high = true≢false low
computes-left (Some (Copy a)) n c low high = c
computes-left (Some (Not a)) n c low high = tt
computes-left (Some (And a b)) n c low high = tt
computes-left (Some (Or a b)) n c low high = tt

pub no_copy-computes : (o : Option Op) → computes o → no_copy o
no_copy-computes None c = tt
no_copy-computes (Some (Const b)) c = tt
no_copy-computes (Some (Copy a)) c = c
no_copy-computes (Some (Not a)) c = tt
no_copy-computes (Some (And a b)) c = tt
no_copy-computes (Some (Or a b)) c = tt

record Left (first : ℕ) (gates : List Gate) (m n : ℕ) : Type 0 where
  differ : m ≡ n → ⊥
  here : computes (op_at first gates m)
  there : computes (op_at first gates n)

left : (first : ℕ) (gates : List Gate) (m n : ℕ) → no_copy (op_at first gates m) → no_copy (op_at first gates n)
    → implies first gates m n ≡ false → implies first gates n m ≡ false → Left first gates m n
left first gates m n here there up down =
    let a = or_parts (m == n || is_low (op_at first gates m) n) (is_high (op_at first gates n) m) up in
    let b = or_parts (n == m || is_low (op_at first gates n) m) (is_high (op_at first gates m) n) down in
    let p = or_parts (m == n) (is_low (op_at first gates m) n) a.0 in
    let q = or_parts (n == m) (is_low (op_at first gates n) m) b.0 in
    record {
      differ = λ same. both_ways (m == n) p.0 (eq-eqb m n same);
      here = computes-left (op_at first gates m) n here p.1 b.1;
      there = computes-left (op_at first gates n) m there q.1 a.1;
    }

and-settled : (first : ℕ) (gates : List Gate) (opposite up down : Bool) (m n : NetId) → no_copy (op_at first gates m.0) → no_copy (op_at first gates n.0)
    → implies first gates m.0 n.0 ≡ up → implies first gates n.0 m.0 ≡ down → Settled first gates (and_by opposite up down m n)
and-settled first gates true up down m n here there a b = tt
and-settled first gates false true down m n here there a b = here
and-settled first gates false false true m n here there a b = there
and-settled first gates false false false m n here there a b =
    let l = left first gates m.0 n.0 here there a b in (l.differ, l.here, l.there)

or-settled : (first : ℕ) (gates : List Gate) (opposite up down : Bool) (m n : NetId) → no_copy (op_at first gates m.0) → no_copy (op_at first gates n.0)
    → implies first gates m.0 n.0 ≡ up → implies first gates n.0 m.0 ≡ down → Settled first gates (or_by opposite up down m n)
or-settled first gates true up down m n here there a b = tt
or-settled first gates false true down m n here there a b = there
or-settled first gates false false true m n here there a b = here
or-settled first gates false false false m n here there a b =
    let l = left first gates m.0 n.0 here there a b in (l.differ, l.here, l.there)

negation-settled : (first : ℕ) (gates : List Gate) (n : NetId) (o : Option Op) → op_at first gates n.0 ≡ o → no_copy o
    → ((a : NetId) → o ≡ Some (Not a) → computes (op_at first gates a.0)) → Settled first gates (negation o n)
negation-settled first gates n None e c inner = subst computes (sym e) tt
negation-settled first gates n (Some (Const b)) e c inner = tt
negation-settled first gates n (Some (Copy a)) e c inner = absurd c
negation-settled first gates n (Some (Not a)) e c inner = no_copy-computes (op_at first gates a.0) (inner a refl)
negation-settled first gates n (Some (And a b)) e c inner = subst computes (sym e) tt
negation-settled first gates n (Some (Or a b)) e c inner = subst computes (sym e) tt

pub reduced-settled : (first : ℕ) (gates : List Gate) (op : Op) → operand_end op ≤ first + length gates
    → ((n : ℕ) → n < first + length gates → reads op n ≡ true → no_copy (op_at first gates n))
    → ((n : ℕ) (x : Op) → n < first + length gates → op_at first gates n ≡ Some x → Settled first gates x)
    → Settled first gates (reduced_op first gates op)
reduced-settled first gates (Const b) low fine settled = tt
reduced-settled first gates (Copy n) low fine settled = fine n.0 (omega arith) (eq-eqb n.0 n.0 refl)
reduced-settled first gates (Not n) low fine settled =
    negation-settled first gates n (op_at first gates n.0) refl (fine n.0 (omega arith) (eq-eqb n.0 n.0 refl))
    (λ a e. settled n.0 (Not a) (omega arith) e)
reduced-settled first gates (And m n) low fine settled =
    and-settled first gates (are_opposite first gates m.0 n.0) (implies first gates m.0 n.0) (implies first gates n.0 m.0) m n
    (fine m.0 (omega arith) (or_left (m.0 == m.0) (n.0 == m.0) (eq-eqb m.0 m.0 refl)))
    (fine n.0 (omega arith) (or_right (m.0 == n.0) (n.0 == n.0) (eq-eqb n.0 n.0 refl))) refl refl
reduced-settled first gates (Or m n) low fine settled =
    or-settled first gates (are_opposite first gates m.0 n.0) (implies first gates m.0 n.0) (implies first gates n.0 m.0) m n
    (fine m.0 (omega arith) (or_left (m.0 == m.0) (n.0 == m.0) (eq-eqb m.0 m.0 refl)))
    (fine n.0 (omega arith) (or_right (m.0 == n.0) (n.0 == n.0) (eq-eqb n.0 n.0 refl))) refl refl

pub outright-settled : (first : ℕ) (gates : List Gate) (o : Option Op) (n : NetId) → no_copy (op_at first gates n.0) → Settled first gates (outright_op o n)
outright-settled first gates None n c = c
outright-settled first gates (Some (Const b)) n c = tt
outright-settled first gates (Some (Copy a)) n c = c
outright-settled first gates (Some (Not a)) n c = c
outright-settled first gates (Some (And a b)) n c = c
outright-settled first gates (Some (Or a b)) n c = c

-- ---- what is read

and-low : (opposite up down : Bool) (m n : NetId) (end : ℕ) → m.0 < end → n.0 < end → operand_end (and_by opposite up down m n) ≤ end
and-low true up down m n end a b = omega arith
and-low false true down m n end a b = omega arith
and-low false false true m n end a b = omega arith
and-low false false false m n end a b = omega arith

or-low : (opposite up down : Bool) (m n : NetId) (end : ℕ) → m.0 < end → n.0 < end → operand_end (or_by opposite up down m n) ≤ end
or-low true up down m n end a b = omega arith
or-low false true down m n end a b = omega arith
or-low false false true m n end a b = omega arith
or-low false false false m n end a b = omega arith

negation-low : (o : Option Op) (n : NetId) (end : ℕ) → n.0 < end → ((op : Op) → o ≡ Some op → operand_end op ≤ end) → operand_end (negation o n) ≤ end
negation-low None n end low inner = omega arith
negation-low (Some (Const b)) n end low inner = omega arith
negation-low (Some (Copy a)) n end low inner = omega arith
negation-low (Some (Not a)) n end low inner = inner (Not a) refl
negation-low (Some (And a b)) n end low inner = omega arith
negation-low (Some (Or a b)) n end low inner = omega arith

-- what a gate reads lies before it
pub op_at-low : (first : ℕ) (gates : List Gate) (n : ℕ) (op : Op) → ReadsLower first gates → n < first + length gates → op_at first gates n ≡ Some op
    → operand_end op ≤ first + length gates
op_at-low first gates n op reads low e =
    let g = op_at-gate first gates n op low e in
    let within = reads g.k idle g.within in
    let here = ap operand_end (g.is idle) in
    omega (arith, g.within)

pub reduced-low : (first : ℕ) (gates : List Gate) (op : Op) → ReadsLower first gates → operand_end op ≤ first + length gates
    → operand_end (reduced_op first gates op) ≤ first + length gates
reduced-low first gates (Const b) reads low = low
reduced-low first gates (Copy n) reads low = low
reduced-low first gates (Not n) reads low =
    negation-low (op_at first gates n.0) n (first + length gates) (omega arith) (λ op e. op_at-low first gates n.0 op reads (omega arith) e)
reduced-low first gates (And m n) reads low =
    and-low (are_opposite first gates m.0 n.0) (implies first gates m.0 n.0) (implies first gates n.0 m.0) m n (first + length gates)
    (omega arith) (omega arith)
reduced-low first gates (Or m n) reads low =
    or-low (are_opposite first gates m.0 n.0) (implies first gates m.0 n.0) (implies first gates n.0 m.0) m n (first + length gates) (omega arith) (omega arith)

pub outright-low : (o : Option Op) (n : NetId) (end : ℕ) → n.0 < end → operand_end (outright_op o n) ≤ end
outright-low None n end low = omega arith
outright-low (Some (Const b)) n end low = omega arith
outright-low (Some (Copy a)) n end low = omega arith
outright-low (Some (Not a)) n end low = omega arith
outright-low (Some (And a b)) n end low = omega arith
outright-low (Some (Or a b)) n end low = omega arith

-- ---- what is left is reduced

-- what is reduced depends on the gates of its operands alone
pub reduced-same : (first second : ℕ) (gates others : List Gate) (op : Op)
    → ((n : ℕ) → reads op n ≡ true → op_at first gates n ≡ op_at second others n)
    → reduced_op first gates op ≡ reduced_op second others op
reduced-same first second gates others (Const b) same = refl
reduced-same first second gates others (Copy n) same = refl
reduced-same first second gates others (Not n) same = ap (λ o. negation o n) (same n.0 (eq-eqb n.0 n.0 refl))
reduced-same first second gates others (And m n) same =
    let a = same m.0 (or_left (m.0 == m.0) (n.0 == m.0) (eq-eqb m.0 m.0 refl)) in
    let b = same n.0 (or_right (m.0 == n.0) (n.0 == n.0) (eq-eqb n.0 n.0 refl)) in
    λ i. and_by (negates (a i) n.0 || negates (b i) m.0) (m.0 == n.0 || is_low (a i) n.0 || is_high (b i) m.0)
    (n.0 == m.0 || is_low (b i) m.0 || is_high (a i) n.0) m n
reduced-same first second gates others (Or m n) same =
    let a = same m.0 (or_left (m.0 == m.0) (n.0 == m.0) (eq-eqb m.0 m.0 refl)) in
    let b = same n.0 (or_right (m.0 == n.0) (n.0 == n.0) (eq-eqb n.0 n.0 refl)) in
    λ i. or_by (negates (a i) n.0 || negates (b i) m.0) (m.0 == n.0 || is_low (a i) n.0 || is_high (b i) m.0)
    (n.0 == m.0 || is_low (b i) m.0 || is_high (a i) n.0) m n

negation-again : (first : ℕ) (gates : List Gate) (n : NetId) (o : Option Op) → op_at first gates n.0 ≡ o
    → reduced_op first gates (negation o n) ≡ negation o n
negation-again first gates n None e = ap (λ o. negation o n) e
negation-again first gates n (Some (Const b)) e = refl
negation-again first gates n (Some (Copy a)) e = ap (λ o. negation o n) e
negation-again first gates n (Some (Not a)) e = refl
negation-again first gates n (Some (And a b)) e = ap (λ o. negation o n) e
negation-again first gates n (Some (Or a b)) e = ap (λ o. negation o n) e

and-again : (first : ℕ) (gates : List Gate) (opposite up down : Bool) (m n : NetId) → are_opposite first gates m.0 n.0 ≡ opposite
    → implies first gates m.0 n.0 ≡ up → implies first gates n.0 m.0 ≡ down
    → reduced_op first gates (and_by opposite up down m n) ≡ and_by opposite up down m n
and-again first gates true up down m n a b c = refl
and-again first gates false true down m n a b c = refl
and-again first gates false false true m n a b c = refl
and-again first gates false false false m n a b c = λ i. and_by (a i) (b i) (c i) m n

or-again : (first : ℕ) (gates : List Gate) (opposite up down : Bool) (m n : NetId) → are_opposite first gates m.0 n.0 ≡ opposite
    → implies first gates m.0 n.0 ≡ up → implies first gates n.0 m.0 ≡ down
    → reduced_op first gates (or_by opposite up down m n) ≡ or_by opposite up down m n
or-again first gates true up down m n a b c = refl
or-again first gates false true down m n a b c = refl
or-again first gates false false true m n a b c = refl
or-again first gates false false false m n a b c = λ i. or_by (a i) (b i) (c i) m n

-- reduced once, it is reduced
pub reduced-again : (first : ℕ) (gates : List Gate) (op : Op) → reduced_op first gates (reduced_op first gates op) ≡ reduced_op first gates op
reduced-again first gates (Const b) = refl
reduced-again first gates (Copy n) = refl
reduced-again first gates (Not n) = negation-again first gates n (op_at first gates n.0) refl
reduced-again first gates (And m n) =
    and-again first gates (are_opposite first gates m.0 n.0) (implies first gates m.0 n.0) (implies first gates n.0 m.0) m n refl refl refl
reduced-again first gates (Or m n) =
    or-again first gates (are_opposite first gates m.0 n.0) (implies first gates m.0 n.0) (implies first gates n.0 m.0) m n refl refl refl

pub outright-reduced : (first : ℕ) (gates : List Gate) (o : Option Op) (n : NetId) → reduced_op first gates (outright_op o n) ≡ outright_op o n
outright-reduced first gates None n = refl
outright-reduced first gates (Some (Const b)) n = refl
outright-reduced first gates (Some (Copy a)) n = refl
outright-reduced first gates (Some (Not a)) n = refl
outright-reduced first gates (Some (And a b)) n = refl
outright-reduced first gates (Some (Or a b)) n = refl
