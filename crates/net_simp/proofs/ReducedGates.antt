-- Gates that are reduced stay so where the gates that are not needed go: the gates of their operands, and what these read,
-- are there under their new numbers.
use Rattle.std.proofs.Common.{◌≡◌, ℕ, ◌+◌, ◌-◌, ◌<◌, ◌≤◌, Bool, true, false, ◌||◌, ◌==◌, Option, None, Some, List, length, slice_index_or, refl, sym, ap, subst}
use Rattle.std.proofs.Common.{◌∙◌, if◌then◌else◌, arith, inl, inr, IsTrue}
use Rattle.std.specs.Prelude.{nat_lt}
use Rattle.std.proofs.lemmas.Bool.{cases_lt, cases_eq, cases_order, eqb-true, eq-eqb, ne_eqb, or_cases, or_left, or_right, lt-ltb, le-ltb, false≢true}
use Rattle.base_types.specs.declared.indices.NetId.{NetId}
use Rattle.net_ir.specs.declared.netlist.Op.{Op}
use Rattle.net_ir.specs.declared.netlist.Op.TheVariants.{Const, Copy, Not, And, Or}
use Rattle.net_ir.specs.declared.netlist.Gate.{Gate}
use Rattle.net_ir.specs.Gates.{operand_end, ReadsLower}
use Rattle.net_simp.specs.declared.forms.Form.{Form}
use Rattle.net_simp.specs.declared.forms.Form.TheVariants as forms
use Rattle.net_simp.specs.SimpleNets.{reads, turned}
use Rattle.net_simp.specs.Renaming.{renamed_op}
use Rattle.net_simp.specs.Rules.{op_at, is_low, is_high, negates, negation, and_by, or_by, reduced_op}
use Rattle.net_simp.specs.Forms.{form_of}
use Rattle.net_simp.specs.Needs.{marked, Closed}
use Rattle.net_simp.specs.Packing.{rank, Packed}
use Rattle.net_simp.proofs.Operators.{reads-low}
use Rattle.net_simp.proofs.Reductions.{idle, op_at-gate, op_at-is}
use Rattle.net_simp.proofs.Ranks.{numbered, rank-own, rank-injective, lands}

-- ---- operands in the other order

pub turned-renamed : (f : ℕ → ℕ) (op : Op) → turned (renamed_op f op) ≡ renamed_op f (turned op)
turned-renamed f (Const b) = refl
turned-renamed f (Copy n) = refl
turned-renamed f (Not n) = refl
turned-renamed f (And m n) = refl
turned-renamed f (Or m n) = refl

pub turned-reads : (op : Op) (n : ℕ) → IsTrue (reads (turned op) n) → IsTrue (reads op n)
turned-reads (Const b) n read = read
turned-reads (Copy m) n read = read
turned-reads (Not m) n read = read
turned-reads (And l m) n read = elim (or_cases (m.0 == n) (l.0 == n) read) [
  | inl is ↦ or_right (l.0 == n) (m.0 == n) is
  | inr is ↦ or_left (l.0 == n) (m.0 == n) is
]
turned-reads (Or l m) n read = elim (or_cases (m.0 == n) (l.0 == n) read) [
  | inl is ↦ or_right (l.0 == n) (m.0 == n) is
  | inr is ↦ or_left (l.0 == n) (m.0 == n) is
]

-- two numbers in ascending order, whichever stands first
ascending : (F : ℕ → ℕ → Form) (m n : ℕ) → (if nat_lt m n then F m n else F n m) ≡ (if nat_lt n m then F n m else F m n)
ascending F m n = elim (cases_order m n) [
  | inl e ↦ let f = sym e in λ i. if nat_lt (e i) (f i) then F (e i) (f i) else F (f i) (e i)
  | inr apart ↦ elim apart [
    | inl below ↦
        ap (λ b. if b then F m n else F n m) (lt-ltb m n below) ∙ sym (ap (λ b. if b then F n m else F m n) (le-ltb n m (omega arith)))
    | inr above ↦
        ap (λ b. if b then F m n else F n m) (le-ltb m n (omega arith)) ∙ sym (ap (λ b. if b then F n m else F m n) (lt-ltb n m above))
  ]
]

pub form-turned : (op : Op) → form_of (turned op) ≡ form_of op
form-turned (Const b) = refl
form-turned (Copy n) = refl
form-turned (Not n) = refl
form-turned (And m n) = ascending forms.And n.0 m.0
form-turned (Or m n) = ascending forms.Or n.0 m.0

-- ---- new numbers

-- the operator of a gate under new numbers
abbrev moved : (ℕ → ℕ) → Option Op → Option Op
moved f None = None
moved f (Some op) = Some (renamed_op f op)

module _ (f : ℕ → ℕ) (P : ℕ → Type 0) (apart : (m n : ℕ) → P m → P n → f m ≡ f n → m ≡ n) where
  same-number : (m n : ℕ) → P m → P n → (f m == f n) ≡ (m == n)
  same-number m n a b = elim (cases_eq m n) [
    | inl e ↦ eq-eqb (f m) (f n) (ap f e) ∙ sym (eq-eqb m n e)
    | inr differ ↦ ne_eqb (f m) (f n) (λ e. differ (apart m n a b e)) ∙ sym (ne_eqb m n differ)
  ]

  -- the nets that the gate reads are such
  abbrev Within : Option Op → Type 0
  Within o = (op : Op) (n : ℕ) → o ≡ Some op → IsTrue (reads op n) → P n

  first-within : (l m : NetId) (op : Op) → ((n : ℕ) → IsTrue (l.0 == n || m.0 == n) → IsTrue (reads op n)) → Within (Some op) → P l.0
  first-within l m op r w = w op l.0 refl (r l.0 (or_left (l.0 == l.0) (m.0 == l.0) (eq-eqb l.0 l.0 refl)))

  last-within : (l m : NetId) (op : Op) → ((n : ℕ) → IsTrue (l.0 == n || m.0 == n) → IsTrue (reads op n)) → Within (Some op) → P m.0
  last-within l m op r w = w op m.0 refl (r m.0 (or_right (l.0 == m.0) (m.0 == m.0) (eq-eqb m.0 m.0 refl)))

  either-number : (l m n : ℕ) → P l → P m → P n → (f l == f n || f m == f n) ≡ (l == n || m == n)
  either-number l m n a b c = λ i. same-number l n a c i || same-number m n b c i

  low-moved : (o : Option Op) (n : ℕ) → Within o → P n → is_low (moved f o) (f n) ≡ is_low o n
  low-moved None n w p = refl
  low-moved (Some (Const b)) n w p = refl
  low-moved (Some (Copy m)) n w p = refl
  low-moved (Some (Not m)) n w p = refl
  low-moved (Some (And l m)) n w p =
      either-number l.0 m.0 n (first-within l m (And l m) (λ k r. r) w) (last-within l m (And l m) (λ k r. r) w) p
  low-moved (Some (Or l m)) n w p = refl

  high-moved : (o : Option Op) (n : ℕ) → Within o → P n → is_high (moved f o) (f n) ≡ is_high o n
  high-moved None n w p = refl
  high-moved (Some (Const b)) n w p = refl
  high-moved (Some (Copy m)) n w p = refl
  high-moved (Some (Not m)) n w p = refl
  high-moved (Some (And l m)) n w p = refl
  high-moved (Some (Or l m)) n w p = either-number l.0 m.0 n (first-within l m (Or l m) (λ k r. r) w) (last-within l m (Or l m) (λ k r. r) w) p

  negates-moved : (o : Option Op) (n : ℕ) → Within o → P n → negates (moved f o) (f n) ≡ negates o n
  negates-moved None n w p = refl
  negates-moved (Some (Const b)) n w p = refl
  negates-moved (Some (Copy m)) n w p = refl
  negates-moved (Some (Not m)) n w p = same-number m.0 n (w (Not m) m.0 refl (eq-eqb m.0 m.0 refl)) p
  negates-moved (Some (And l m)) n w p = refl
  negates-moved (Some (Or l m)) n w p = refl

  negation-moved : (o : Option Op) (n : NetId) → negation (moved f o) (numbered (f n.0)) ≡ renamed_op f (negation o n)
  negation-moved None n = refl
  negation-moved (Some (Const b)) n = refl
  negation-moved (Some (Copy m)) n = refl
  negation-moved (Some (Not m)) n = refl
  negation-moved (Some (And l m)) n = refl
  negation-moved (Some (Or l m)) n = refl

  and-moved : (opposite up down : Bool) (m n : NetId) →
      and_by opposite up down (numbered (f m.0)) (numbered (f n.0)) ≡ renamed_op f (and_by opposite up down m n)
  and-moved true up down m n = refl
  and-moved false true down m n = refl
  and-moved false false true m n = refl
  and-moved false false false m n = refl

  or-moved : (opposite up down : Bool) (m n : NetId) →
      or_by opposite up down (numbered (f m.0)) (numbered (f n.0)) ≡ renamed_op f (or_by opposite up down m n)
  or-moved true up down m n = refl
  or-moved false true down m n = refl
  or-moved false false true m n = refl
  or-moved false false false m n = refl

  -- one way in which two nets imply each other, by the gates a and b of m and n
  abbrev implied : Option Op → Option Op → ℕ → ℕ → Bool
  implied a b m n = m == n || is_low a n || is_high b m

  abbrev opposed : Option Op → Option Op → ℕ → ℕ → Bool
  opposed a b m n = negates a n || negates b m

  implied-moved : (a b : Option Op) (m n : ℕ) → Within a → Within b → P m → P n → implied (moved f a) (moved f b) (f m) (f n) ≡ implied a b m n
  implied-moved a b m n v w p q = λ i. same-number m n p q i || low-moved a n v q i || high-moved b m w p i

  opposed-moved : (a b : Option Op) (m n : ℕ) → Within a → Within b → P m → P n → opposed (moved f a) (moved f b) (f m) (f n) ≡ opposed a b m n
  opposed-moved a b m n v w p q = λ i. negates-moved a n v q i || negates-moved b m w p i

  -- what is reduced, under the new numbers
  pub reduced-moved : (first second : ℕ) (gates others : List Gate) (op : Op) → ((n : ℕ) → IsTrue (reads op n) → P n)
      → ((n : ℕ) → IsTrue (reads op n) → op_at second others (f n) ≡ moved f (op_at first gates n))
      → ((n : ℕ) → IsTrue (reads op n) → Within (op_at first gates n))
      → reduced_op second others (renamed_op f op) ≡ renamed_op f (reduced_op first gates op)
  reduced-moved first second gates others (Const b) p at w = refl
  reduced-moved first second gates others (Copy n) p at w = refl
  reduced-moved first second gates others (Not n) p at w =
      ap (λ o. negation o (numbered (f n.0))) (at n.0 (eq-eqb n.0 n.0 refl)) ∙ negation-moved (op_at first gates n.0) n
  reduced-moved first second gates others (And m n) p at w =
      let left = or_left (m.0 == m.0) (n.0 == m.0) (eq-eqb m.0 m.0 refl) in
      let right = or_right (m.0 == n.0) (n.0 == n.0) (eq-eqb n.0 n.0 refl) in
      let x = op_at first gates m.0 in
      let y = op_at first gates n.0 in
      let a = at m.0 left in
      let b = at n.0 right in
      let v = w m.0 left in
      let u = w n.0 right in
      let q = p m.0 left in
      let r = p n.0 right in
      (λ i. and_by (opposed (a i) (b i) (f m.0) (f n.0)) (implied (a i) (b i) (f m.0) (f n.0)) (implied (b i) (a i) (f n.0) (f m.0))
      (numbered (f m.0)) (numbered (f n.0)))
      ∙ (λ i. and_by (opposed-moved x y m.0 n.0 v u q r i) (implied-moved x y m.0 n.0 v u q r i) (implied-moved y x n.0 m.0 u v r q i)
      (numbered (f m.0)) (numbered (f n.0)))
      ∙ and-moved (opposed x y m.0 n.0) (implied x y m.0 n.0) (implied y x n.0 m.0) m n
  reduced-moved first second gates others (Or m n) p at w =
      let left = or_left (m.0 == m.0) (n.0 == m.0) (eq-eqb m.0 m.0 refl) in
      let right = or_right (m.0 == n.0) (n.0 == n.0) (eq-eqb n.0 n.0 refl) in
      let x = op_at first gates m.0 in
      let y = op_at first gates n.0 in
      let a = at m.0 left in
      let b = at n.0 right in
      let v = w m.0 left in
      let u = w n.0 right in
      let q = p m.0 left in
      let r = p n.0 right in
      (λ i. or_by (opposed (a i) (b i) (f m.0) (f n.0)) (implied (a i) (b i) (f m.0) (f n.0)) (implied (b i) (a i) (f n.0) (f m.0))
      (numbered (f m.0)) (numbered (f n.0)))
      ∙ (λ i. or_by (opposed-moved x y m.0 n.0 v u q r i) (implied-moved x y m.0 n.0 v u q r i) (implied-moved y x n.0 m.0 u v r q i)
      (numbered (f m.0)) (numbered (f n.0)))
      ∙ or-moved (opposed x y m.0 n.0) (implied x y m.0 n.0) (implied y x n.0 m.0) m n

-- ---- the gates that are left

abbrev chosen : Bool → Op → Option Op
chosen b op = if b then None else Some op

op_at-input : (first : ℕ) (gates : List Gate) (n : ℕ) → n < first → op_at first gates n ≡ None
op_at-input first gates n low = ap (λ b. chosen b (slice_index_or gates (n - first) idle).op) (lt-ltb n first low)

-- the gate of a marked net, under its new number
ranked-at : (first : ℕ) (marks : List Bool) (gates new : List Gate) (names : List NetId) (n : ℕ) → Closed first gates marks
    → Packed first marks gates new names → n < first + length gates → marked marks n ≡ true
    → op_at first new (rank marks n) ≡ moved (rank marks) (op_at first gates n)
ranked-at first marks gates new names n closed packs low on = elim (cases_lt n first) [
  | inl below ↦
      let own = rank-own marks first n closed.low (omega arith) in
      op_at-input first new (rank marks n) (omega arith) ∙ sym (ap (moved (rank marks)) (op_at-input first gates n below))
  | inr over ↦
      let k = n - first in
      let place : n ≡ first + k = omega arith in
      let there = subst (λ m. marked marks m ≡ true) place on in
      let l = lands first marks gates new names k closed packs (omega arith) there in
      op_at-is first new (rank marks n) l.place idle (ap (rank marks) place ∙ l.ranked) l.within
      ∙ ap (λ op. Some op) (l.op idle)
      ∙ sym (ap (moved (rank marks)) (op_at-is first gates n k idle place (omega arith)))
]

pub ranked-reduced : (first : ℕ) (marks : List Bool) (gates new : List Gate) (names : List NetId) (at : ℕ) (d : Gate) → Closed first gates marks
    → Packed first marks gates new names → ReadsLower first gates → at < length gates → marked marks (first + at) ≡ true
    → reduced_op first gates (slice_index_or gates at d).op ≡ (slice_index_or gates at d).op
    → reduced_op first new (renamed_op (rank marks) (slice_index_or gates at d).op) ≡ renamed_op (rank marks) (slice_index_or gates at d).op
ranked-reduced first marks gates new names at d closed packs lower within on reduced =
    let op = (slice_index_or gates at d).op in
    let below = lower at d within in
    let low = λ (n : ℕ) (r : IsTrue (reads op n)). reads-low op n (first + length gates) r (omega arith) in
    let kept = λ (n : ℕ) (r : IsTrue (reads op n)). closed.closed at d n within on r in
    reduced-moved (rank marks) (λ n. IsTrue (marked marks n)) (λ m n p q e. rank-injective marks m n p q e) first first gates new op kept
    (λ n r. ranked-at first marks gates new names n closed packs (low n r) (kept n r))
    (λ n r x m e s.
    let g = op_at-gate first gates n x (low n r) e in
    closed.closed g.k idle m g.within (subst (λ i. IsTrue (marked marks i)) g.place (kept n r)) (subst (λ y. IsTrue (reads y m)) (sym (g.is idle)) s))
    ∙ ap (renamed_op (rank marks)) reduced
