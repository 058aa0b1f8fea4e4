-- What marks say of a valuation, and what a set mark leaves of the others.
use Rattle.std.proofs.Common.{◌≡◌, ◌⊎◌, inl, inr, ◌≤◌, ℕ, suc, Bool, true, false, not, List, [], ◌∷◌, length, replicate, refl, sym, ap, ◌∙◌}
use Rattle.std.proofs.Common.{subst, ⊎_elim}
use Rattle.std.specs.Prelude.{if◌then◌else◌, ⊤}
use Rattle.std.proofs.lemmas.Bool.{cases_eq, cases_lt, true≢false}
use Rattle.std.proofs.lemmas.List.{get_or-set_same, get_or-set_other, set_past, get_or-replicate, get_or_past, length-replicate}
use Rattle.sat_kernel.specs.declared.literals.Literal.{Literal}
use Rattle.sat_kernel.specs.declared.marks.Mark.{Mark}
use Rattle.sat_kernel.specs.declared.marks.Mark.TheVariants.{Unknown, False, True}
use Rattle.sat_kernel.specs.Clauses.{literal_value}
use Rattle.sat_kernel.specs.Propagation.{mark_at, truth_mark, with_mark, denies, is_false}

-- a mark is set, or there is none to be set, and then nothing changes
pub mark_at-with_mark : (marks : List Mark) (x y : ℕ) (m : Mark)
    → (mark_at (with_mark marks x m) y ≡ mark_at marks y) ⊎ ((x ≡ y) × (mark_at (with_mark marks x m) y ≡ m))
mark_at-with_mark marks x y m = ⊎_elim
    (λ same. ⊎_elim
    (λ low. inr (same, subst (λ z. mark_at (with_mark marks x m) z ≡ m) same (get_or-set_same marks x m Unknown low)))
    (λ high. inl (ap (λ ms. mark_at ms y) (set_past marks x m high)))
    (cases_lt x (length marks)))
    (λ other. inl (get_or-set_other marks x y m Unknown (λ e. other (sym e))))
    (cases_eq x y)

-- what a mark says of a value
abbrev pub Says : Mark → Bool → Type 0
Says Unknown b = ⊤
Says False b = b ≡ false
Says True b = b ≡ true

-- the marks are those of a valuation
abbrev pub Agrees : (ℕ → Bool) → List Mark → Type 0
Agrees v marks = (x : ℕ) → Says (mark_at marks x) (v x)

says-truth : (b : Bool) → Says (truth_mark b) b
says-truth true = refl
says-truth false = refl

pub agrees-with_mark : (v : ℕ → Bool) (marks : List Mark) (x : ℕ) (m : Mark) → Says m (v x) → Agrees v marks → Agrees v (with_mark marks x m)
agrees-with_mark v marks x m says agrees y = ⊎_elim
    (λ same. subst (λ k. Says k (v y)) (sym same) (agrees y))
    (λ set. subst (λ k. Says k (v y)) (sym set.1) (subst (λ z. Says m (v z)) set.0 says))
    (mark_at-with_mark marks x y m)

-- a literal that is true has the mark of its sign
signed : (p b : Bool) → (if p then b else not b) ≡ true → Says (truth_mark p) b
signed true b e = e
signed false true e = absurd (true≢false (sym e))
signed false false e = refl

-- the same of one that is false
unsigned : (p b : Bool) → (if p then b else not b) ≡ false → Says (truth_mark (not p)) b
unsigned true b e = e
unsigned false true e = refl
unsigned false false e = absurd (true≢false e)

pub agrees-true : (v : ℕ → Bool) (marks : List Mark) (l : Literal) → literal_value v l ≡ true → Agrees v marks
    → Agrees v (with_mark marks l.variable (truth_mark l.positive))
agrees-true v marks l e = agrees-with_mark v marks l.variable (truth_mark l.positive) (signed l.positive (v l.variable) e)

pub agrees-false : (v : ℕ → Bool) (marks : List Mark) (l : Literal) → literal_value v l ≡ false → Agrees v marks
    → Agrees v (with_mark marks l.variable (truth_mark (not l.positive)))
agrees-false v marks l e = agrees-with_mark v marks l.variable (truth_mark (not l.positive)) (unsigned l.positive (v l.variable) e)

denied-value : (m : Mark) (p b : Bool) → Says m b → denies m p ≡ true → (if p then b else not b) ≡ false
denied-value Unknown p b says e = absurd (true≢false (sym e))
denied-value False true b says e = says
denied-value False false b says e = absurd (true≢false (sym e))
denied-value True true b says e = absurd (true≢false (sym e))
denied-value True false b says e = ap not says

-- a literal that is false by marks is false in each valuation that they are those of
pub is_false-value : (v : ℕ → Bool) (marks : List Mark) (l : Literal) → Agrees v marks → is_false marks l ≡ true → literal_value v l ≡ false
is_false-value v marks l agrees e = denied-value (mark_at marks l.variable) l.positive (v l.variable) (agrees l.variable) e

-- every valuation agrees with marks of which none is set
pub mark_at-replicate : (n x : ℕ) → mark_at (replicate n Unknown) x ≡ Unknown
mark_at-replicate n x = ⊎_elim
    (λ low. get_or-replicate n x Unknown Unknown low)
    (λ high. let past : length (replicate n Unknown) ≤ x = rw (length-replicate n Unknown) high in get_or_past (replicate n Unknown) x Unknown past)
    (cases_lt x n)

pub agrees-none : (v : ℕ → Bool) (n : ℕ) → Agrees v (replicate n Unknown)
agrees-none v n x = subst (λ m. Says m (v x)) (sym (mark_at-replicate n x)) tt

-- marks of which none is set are those
pub none-set : (marks : List Mark) → ((x : ℕ) → mark_at marks x ≡ Unknown) → marks ≡ replicate (length marks) Unknown
none-set [] none = refl
none-set (m ∷ marks) none =
    let here : m ≡ Unknown = none 0 in
    let rest = none-set marks (λ x. none (suc x)) in
    ap (λ k. k ∷ marks) here ∙ ap (λ ms. Unknown ∷ ms) rest
