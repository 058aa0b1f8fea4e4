-- Operators: what they read, and the same operators over the nets that stand for those.
use Rattle.std.proofs.Common.{◌≡◌, ℕ, ◌+◌, ◌<◌, ◌≤◌, Bool, true, false, not, ◌&&◌, ◌||◌, ◌==◌, List, [], ◌∷◌, ◌++◌, length, refl, sym, ap, subst, ◌∙◌, arith}
use Rattle.std.proofs.Common.{inl, inr, IsTrue, nat_eq}
use Rattle.std.proofs.lemmas.Bool.{eqb-true, eq-eqb, or_cases, or_left, or_right, false≢true}
use Rattle.net_ir.specs.declared.netlist.Op.{Op}
use Rattle.net_ir.specs.declared.netlist.Op.TheVariants.{Const, Copy, Not, And, Or}
use Rattle.net_ir.specs.Gates.{operand_end, op_value}
use Rattle.net_simp.specs.SimpleNets.{reads}
use Rattle.net_simp.specs.Renaming.{renamed_op}

same-net : (m : ℕ) → IsTrue (m == m)
same-net m = eq-eqb m m refl

-- an operator reads nets below its end
pub reads-low : (op : Op) (n end : ℕ) → IsTrue (reads op n) → operand_end op ≤ end → n < end
reads-low (Const b) n end read low = absurd (false≢true read)
reads-low (Copy m) n end read low = let e = eqb-true m.0 n read in omega arith
reads-low (Not m) n end read low = let e = eqb-true m.0 n read in omega arith
reads-low (And l m) n end read low = elim (or_cases (l.0 == n) (m.0 == n) read) [
  | inl is ↦ let e = eqb-true l.0 n is in omega arith
  | inr is ↦ let e = eqb-true m.0 n is in omega arith
]
reads-low (Or l m) n end read low = elim (or_cases (l.0 == n) (m.0 == n) read) [
  | inl is ↦ let e = eqb-true l.0 n is in omega arith
  | inr is ↦ let e = eqb-true m.0 n is in omega arith
]

pub renamed-value : (f : ℕ → ℕ) (new old : ℕ → Bool) (op : Op) → ((n : ℕ) → IsTrue (reads op n) → new (f n) ≡ old n)
    → op_value new (renamed_op f op) ≡ op_value old op
renamed-value f new old (Const b) same = refl
renamed-value f new old (Copy m) same = same m.0 (same-net m.0)
renamed-value f new old (Not m) same = ap not (same m.0 (same-net m.0))
renamed-value f new old (And l m) same =
    let p = same l.0 (or_left (l.0 == l.0) (m.0 == l.0) (same-net l.0)) in
    let q = same m.0 (or_right (l.0 == m.0) (m.0 == m.0) (same-net m.0)) in cc
renamed-value f new old (Or l m) same =
    let p = same l.0 (or_left (l.0 == l.0) (m.0 == l.0) (same-net l.0)) in
    let q = same m.0 (or_right (l.0 == m.0) (m.0 == m.0) (same-net m.0)) in cc

pub renamed-low : (f : ℕ → ℕ) (op : Op) (end : ℕ) → ((n : ℕ) → IsTrue (reads op n) → f n < end) → operand_end (renamed_op f op) ≤ end
renamed-low f (Const b) end below = omega arith
renamed-low f (Copy m) end below = let p = below m.0 (same-net m.0) in omega arith
renamed-low f (Not m) end below = let p = below m.0 (same-net m.0) in omega arith
renamed-low f (And l m) end below =
    let p = below l.0 (or_left (l.0 == l.0) (m.0 == l.0) (same-net l.0)) in
    let q = below m.0 (or_right (l.0 == m.0) (m.0 == m.0) (same-net m.0)) in omega arith
renamed-low f (Or l m) end below =
    let p = below l.0 (or_left (l.0 == l.0) (m.0 == l.0) (same-net l.0)) in
    let q = below m.0 (or_right (l.0 == m.0) (m.0 == m.0) (same-net m.0)) in omega arith

-- what the renamed operator reads
pub renamed-reads : (f : ℕ → ℕ) (op : Op) (n : ℕ) → IsTrue (reads op n) → IsTrue (reads (renamed_op f op) (f n))
renamed-reads f (Const b) n read = absurd (false≢true read)
renamed-reads f (Copy m) n read = eq-eqb (f m.0) (f n) (ap f (eqb-true m.0 n read))
renamed-reads f (Not m) n read = eq-eqb (f m.0) (f n) (ap f (eqb-true m.0 n read))
renamed-reads f (And l m) n read = elim (or_cases (l.0 == n) (m.0 == n) read) [
  | inl is ↦ or_left (f l.0 == f n) (f m.0 == f n) (eq-eqb (f l.0) (f n) (ap f (eqb-true l.0 n is)))
  | inr is ↦ or_right (f l.0 == f n) (f m.0 == f n) (eq-eqb (f m.0) (f n) (ap f (eqb-true m.0 n is)))
]
renamed-reads f (Or l m) n read = elim (or_cases (l.0 == n) (m.0 == n) read) [
  | inl is ↦ or_left (f l.0 == f n) (f m.0 == f n) (eq-eqb (f l.0) (f n) (ap f (eqb-true l.0 n is)))
  | inr is ↦ or_right (f l.0 == f n) (f m.0 == f n) (eq-eqb (f m.0) (f n) (ap f (eqb-true m.0 n is)))
]

-- the renamed operator reads nothing else
pub renamed-from : (f : ℕ → ℕ) (op : Op) (n : ℕ) (P : ℕ → Type 0) → IsTrue (reads (renamed_op f op) n)
    → ((m : ℕ) → IsTrue (reads op m) → P (f m)) → P n
renamed-from f (Const b) n P read each = absurd (false≢true read)
renamed-from f (Copy m) n P read each = subst P (eqb-true (f m.0) n read) (each m.0 (same-net m.0))
renamed-from f (Not m) n P read each = subst P (eqb-true (f m.0) n read) (each m.0 (same-net m.0))
renamed-from f (And l m) n P read each = elim (or_cases (f l.0 == n) (f m.0 == n) read) [
  | inl is ↦ subst P (eqb-true (f l.0) n is) (each l.0 (or_left (l.0 == l.0) (m.0 == l.0) (same-net l.0)))
  | inr is ↦ subst P (eqb-true (f m.0) n is) (each m.0 (or_right (l.0 == m.0) (m.0 == m.0) (same-net m.0)))
]
renamed-from f (Or l m) n P read each = elim (or_cases (f l.0 == n) (f m.0 == n) read) [
  | inl is ↦ subst P (eqb-true (f l.0) n is) (each l.0 (or_left (l.0 == l.0) (m.0 == l.0) (same-net l.0)))
  | inr is ↦ subst P (eqb-true (f m.0) n is) (each m.0 (or_right (l.0 == m.0) (m.0 == m.0) (same-net m.0)))
]

-- the same nets stand for those that are read
pub renamed-same : (f h : ℕ → ℕ) (op : Op) → ((n : ℕ) → IsTrue (reads op n) → f n ≡ h n) → renamed_op f op ≡ renamed_op h op
renamed-same f h (Const b) same = refl
renamed-same f h (Copy m) same = ap (λ n. Copy (record { 0 = n })) (same m.0 (same-net m.0))
renamed-same f h (Not m) same = ap (λ n. Not (record { 0 = n })) (same m.0 (same-net m.0))
renamed-same f h (And l m) same =
    let p = same l.0 (or_left (l.0 == l.0) (m.0 == l.0) (same-net l.0)) in
    let q = same m.0 (or_right (l.0 == m.0) (m.0 == m.0) (same-net m.0)) in
    λ i. And (record { 0 = p i }) (record { 0 = q i })
renamed-same f h (Or l m) same =
    let p = same l.0 (or_left (l.0 == l.0) (m.0 == l.0) (same-net l.0)) in
    let q = same m.0 (or_right (l.0 == m.0) (m.0 == m.0) (same-net m.0)) in
    λ i. Or (record { 0 = p i }) (record { 0 = q i })

abbrev first_read : Op → ℕ
first_read (Const b) = 0
first_read (Copy m) = m.0
first_read (Not m) = m.0
first_read (And l m) = l.0
first_read (Or l m) = l.0

abbrev last_read : Op → ℕ
last_read (Const b) = 0
last_read (Copy m) = m.0
last_read (Not m) = m.0
last_read (And l m) = m.0
last_read (Or l m) = m.0

read-first : (l m : ℕ) → IsTrue (l == l || m == l)
read-first l m = or_left (l == l) (m == l) (same-net l)

read-last : (l m : ℕ) → IsTrue (l == m || m == m)
read-last l m = or_right (l == m) (m == m) (same-net m)

-- where different nets have different names, so have operators that read them
pub renamed-injective : (f : ℕ → ℕ) (op other : Op)
    → ((m n : ℕ) → IsTrue (reads op m) → IsTrue (reads other n) → f m ≡ f n → m ≡ n) → renamed_op f op ≡ renamed_op f other → op ≡ other
renamed-injective f (Const a) (Const b) apart e = e
renamed-injective f (Copy a) (Copy b) apart e =
    ap (λ n. Copy (record { 0 = n })) (apart a.0 b.0 (same-net a.0) (same-net b.0) (ap first_read e))
renamed-injective f (Not a) (Not b) apart e =
    ap (λ n. Not (record { 0 = n })) (apart a.0 b.0 (same-net a.0) (same-net b.0) (ap first_read e))
renamed-injective f (And a b) (And c d) apart e =
    let p = apart a.0 c.0 (read-first a.0 b.0) (read-first c.0 d.0) (ap first_read e) in
    let q = apart b.0 d.0 (read-last a.0 b.0) (read-last c.0 d.0) (ap last_read e) in
    λ i. And (record { 0 = p i }) (record { 0 = q i })
renamed-injective f (Or a b) (Or c d) apart e =
    let p = apart a.0 c.0 (read-first a.0 b.0) (read-first c.0 d.0) (ap first_read e) in
    let q = apart b.0 d.0 (read-last a.0 b.0) (read-last c.0 d.0) (ap last_read e) in
    λ i. Or (record { 0 = p i }) (record { 0 = q i })
renamed-injective f (Const a) (Copy c) apart e = let never : ⊥ = cc in absurd never
renamed-injective f (Const a) (Not c) apart e = let never : ⊥ = cc in absurd never
renamed-injective f (Const a) (And c d) apart e = let never : ⊥ = cc in absurd never
renamed-injective f (Const a) (Or c d) apart e = let never : ⊥ = cc in absurd never
renamed-injective f (Copy a) (Const c) apart e = let never : ⊥ = cc in absurd never
renamed-injective f (Copy a) (Not c) apart e = let never : ⊥ = cc in absurd never
renamed-injective f (Copy a) (And c d) apart e = let never : ⊥ = cc in absurd never
renamed-injective f (Copy a) (Or c d) apart e = let never : ⊥ = cc in absurd never
renamed-injective f (Not a) (Const c) apart e = let never : ⊥ = cc in absurd never
renamed-injective f (Not a) (Copy c) apart e = let never : ⊥ = cc in absurd never
renamed-injective f (Not a) (And c d) apart e = let never : ⊥ = cc in absurd never
renamed-injective f (Not a) (Or c d) apart e = let never : ⊥ = cc in absurd never
renamed-injective f (And a b) (Const c) apart e = let never : ⊥ = cc in absurd never
renamed-injective f (And a b) (Copy c) apart e = let never : ⊥ = cc in absurd never
renamed-injective f (And a b) (Not c) apart e = let never : ⊥ = cc in absurd never
renamed-injective f (And a b) (Or c d) apart e = let never : ⊥ = cc in absurd never
renamed-injective f (Or a b) (Const c) apart e = let never : ⊥ = cc in absurd never
renamed-injective f (Or a b) (Copy c) apart e = let never : ⊥ = cc in absurd never
renamed-injective f (Or a b) (Not c) apart e = let never : ⊥ = cc in absurd never
renamed-injective f (Or a b) (And c d) apart e = let never : ⊥ = cc in absurd never
