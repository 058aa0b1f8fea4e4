-- The numbers of loop bodies above a statement, as its place in the body has them.
use Rattle.std.proofs.Common.{◌≡◌, ℕ, ◌+◌, ◌<◌, ◌≤◌, ◌==◌, cond, refl, ◌∙◌, arith}
use Rattle.std.specs.Prelude.{nat_lt, ⊤}
use Rattle.std.proofs.lemmas.Bool.{eq-eqb, ne_eqb, cond-true, cond-false, lt-ltb, le-ltb}
use Rattle.est_kernel.specs.Terms.{Term, Nothing, Pause, Emit, Exit, Present, Suspend, Seq, Loop, Par, Trap, Local, Awake}
use Rattle.est_kernel.specs.Preorder.{statement_count}
use Rattle.est_kernel.proofs.Exports.{statement_count-pos}
use Rattle.grc_share.specs.SharedInstances.{loops_at, loops_above}

-- ---- reads of a number in a statement at n

pub at-only : {A : Type 0} (m n : ℕ) (x y : A) → n < m → cond (m == n) x y ≡ y
at-only m n x y h = cond-false (m == n) x y (ne_eqb m n (λ e. omega (arith, h, e)))

pub at-first : {A : Type 0} (m n b : ℕ) (x y z : A) → n < m → m < b → cond (m == n) x (cond (nat_lt m b) y z) ≡ y
at-first m n b x y z h g = at-only m n x _ h ∙ cond-true (nat_lt m b) y z (lt-ltb m b g)

pub at-second : {A : Type 0} (m n b : ℕ) (x y z : A) → n < m → b ≤ m → cond (m == n) x (cond (nat_lt m b) y z) ≡ z
at-second m n b x y z h g = at-only m n x _ h ∙ cond-false (nat_lt m b) y z (le-ltb m b g)

pub at-self : {A : Type 0} (n : ℕ) (x y : A) → cond (n == n) x y ≡ x
at-self n x y = cond-true (n == n) x y (eq-eqb n n refl)

pub above-self : (j k : ℕ) (t : Term) (n : ℕ) → loops_above j k t n n ≡ j
above-self j k Nothing n = refl
above-self j k Pause n = refl
above-self j k (Emit s) n = refl
above-self j k (Exit c) n = refl
above-self j k (Present e p q) n = at-self n j _
above-self j k (Suspend e p) n = at-self n j _
above-self j k (Seq p q) n = at-self n j _
above-self j k (Loop at p) n = at-self n j _
above-self j k (Par p q) n = at-self n j _
above-self j k (Trap p) n = at-self n j _
above-self j k (Local s p) n = at-self n j _
above-self j k (Awake e p) n = refl

pub at-own : (k : ℕ) (t : Term) (n : ℕ) → loops_at k t n n ≡ k
at-own k Nothing n = refl
at-own k Pause n = refl
at-own k (Emit s) n = refl
at-own k (Exit c) n = refl
at-own k (Present e p q) n = at-self n k _
at-own k (Suspend e p) n = at-self n k _
at-own k (Seq p q) n = at-self n k _
at-own k (Loop at p) n = at-self n k _
at-own k (Par p q) n = at-self n k _
at-own k (Trap p) n = at-self n k _
at-own k (Local s p) n = at-self n k _
at-own k (Awake e p) n = refl

-- ---- roots

-- a root that is a second part of a sequence has the key of what is resumed there, one that is a loop's body that of the
-- resumed loop
abbrev pub OwnKeys : (ℕ → ℕ) → ℕ → Term → ℕ → Type 0
OwnKeys c k Nothing n = ⊤
OwnKeys c k Pause n = ⊤
OwnKeys c k (Emit s) n = ⊤
OwnKeys c k (Exit a) n = ⊤
OwnKeys c k (Present e p q) n = OwnKeys c k p (n + 1) × OwnKeys c k q (n + 1 + statement_count p)
OwnKeys c k (Suspend e p) n = OwnKeys c k p (n + 1)
OwnKeys c k (Seq p q) n =
    (c (n + 1 + statement_count p) ≡ k) × OwnKeys c k p (n + 1) × OwnKeys c k q (n + 1 + statement_count p)
OwnKeys c k (Loop at p) n = (c (n + 1) ≡ k) × OwnKeys c (k + 1) p (n + 1)
OwnKeys c k (Par p q) n = OwnKeys c k p (n + 1) × OwnKeys c k q (n + 1 + statement_count p)
OwnKeys c k (Trap p) n = OwnKeys c k p (n + 1)
OwnKeys c k (Local s p) n = OwnKeys c k p (n + 1)
OwnKeys c k (Awake e p) n = ⊤

-- a function counts what stands above the statements of one at n
abbrev Above : (ℕ → ℕ) → (j k : ℕ) → Term → ℕ → Type 0
Above c j k t n = (m : ℕ) → n ≤ m → m < n + statement_count t → c m ≡ loops_above j k t n m

pub own_keys : (c : ℕ → ℕ) (j k : ℕ) (t : Term) (n : ℕ) → Above c j k t n → OwnKeys c k t n
own_keys c j k Nothing n h = tt
own_keys c j k Pause n h = tt
own_keys c j k (Emit s) n h = tt
own_keys c j k (Exit a) n h = tt
own_keys c j k (Present e p q) n h = (
  own_keys c k k p (n + 1) (λ m l g. h m (omega arith) (omega arith) ∙ at-first m n (n + 1 + statement_count p) j _ _ (omega arith) (omega arith)),
  own_keys c k k q (n + 1 + statement_count p)
      (λ m l g. h m (omega arith) (omega arith) ∙ at-second m n (n + 1 + statement_count p) j _ _ (omega arith) (omega arith)),
)
own_keys c j k (Suspend e p) n h = own_keys c k k p (n + 1) (λ m l g. h m (omega arith) (omega arith) ∙ at-only m n j _ (omega arith))
own_keys c j k (Seq p q) n h =
    let b = n + 1 + statement_count p in
    let second : Above c k k q b = λ m l g. h m (omega arith) (omega arith) ∙ at-second m n b j _ _ (omega arith) (omega arith) in (
      second b (omega arith) (omega (arith, statement_count-pos q)) ∙ above-self k k q b,
      own_keys c k k p (n + 1) (λ m l g. h m (omega arith) (omega arith) ∙ at-first m n b j _ _ (omega arith) (omega arith)),
      own_keys c k k q b second,
    )
own_keys c j k (Loop at p) n h =
    let part : Above c k (k + 1) p (n + 1) = λ m l g. h m (omega arith) (omega arith) ∙ at-only m n j _ (omega arith) in
    (part (n + 1) (omega arith) (omega (arith, statement_count-pos p)) ∙ above-self k (k + 1) p (n + 1), own_keys c k (k + 1) p (n + 1) part)
own_keys c j k (Par p q) n h = (
  own_keys c k k p (n + 1) (λ m l g. h m (omega arith) (omega arith) ∙ at-first m n (n + 1 + statement_count p) j _ _ (omega arith) (omega arith)),
  own_keys c k k q (n + 1 + statement_count p)
      (λ m l g. h m (omega arith) (omega arith) ∙ at-second m n (n + 1 + statement_count p) j _ _ (omega arith) (omega arith)),
)
own_keys c j k (Trap p) n h = own_keys c k k p (n + 1) (λ m l g. h m (omega arith) (omega arith) ∙ at-only m n j _ (omega arith))
own_keys c j k (Local s p) n h = own_keys c k k p (n + 1) (λ m l g. h m (omega arith) (omega arith) ∙ at-only m n j _ (omega arith))
own_keys c j k (Awake e p) n h = tt

pub body_own_keys : (body : Term) → OwnKeys (loops_above 0 0 body 0) 0 body 0
body_own_keys body = own_keys (loops_above 0 0 body 0) 0 0 body 0 (λ m l g. refl)
