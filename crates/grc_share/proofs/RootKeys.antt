-- The keys of a statement's roots: they rise with the roots, and none is above that of what is resumed.
use Rattle.std.proofs.Common.{◌≡◌, ℕ, ◌+◌, ◌<◌, ◌≤◌, ◌==◌, ◌&&◌, Bool, true, false, cond, List, [], ◌∷◌, ◌++◌, sym, subst, ⊎_elim, arith}
use Rattle.std.specs.Prelude.{nat_lt, ⊤}
use Rattle.std.proofs.lemmas.Bool.{cases_lt, false≢true, le-ltb, lt-ltb}
use Rattle.est_kernel.specs.Terms.{Term, Nothing, Pause, Emit, Exit, Present, Suspend, Seq, Loop, Par, Trap, Local, Awake}
use Rattle.est_kernel.specs.Preorder.{statement_count}
use Rattle.est_kernel.specs.StaticCodes.{started_codes, resumed_codes}
use Rattle.grc_graph.specs.Layers.{Liveness, body_liveness, part_liveness, second_liveness, loop_liveness, liveness_at, root_if}
use Rattle.grc_share.specs.SharedInstances.{loops_at, loops_above}
use Rattle.grc_share.proofs.LoopNumbers.{OwnKeys, at-only, at-self, body_own_keys, above-self}

-- the keys of roots, in their order, rise from one number to another
abbrev pub KeysRise : (ℕ → ℕ) → (from to : ℕ) → List ℕ → Type 0
KeysRise c b k [] = ⊤
KeysRise c b k (r ∷ rs) = (b ≤ c r) × (c r ≤ k) × KeysRise c (c r) k rs

rise_if : (c : ℕ → ℕ) (b k m : ℕ) (rs : List ℕ) (own : Bool) → b ≤ k → c m ≡ k → KeysRise c b k rs → KeysRise c b k (rs ++ root_if own m)
rise_if c b k m [] true l e h = (omega (arith, l, e), omega (arith, e), tt)
rise_if c b k m [] false l e h = tt
rise_if c b k m (r ∷ rs) own l e h = (h.0, h.1, rise_if c (c r) k m rs own h.1 e h.2)

rise_some : (c : ℕ → ℕ) (b k : ℕ) (rs : List ℕ) (some : Bool) → KeysRise c b k rs → KeysRise c b k (cond some rs [])
rise_some c b k rs true h = h
rise_some c b k rs false h = tt

rise_more : (c : ℕ → ℕ) (b k : ℕ) (rs : List ℕ) → KeysRise c b k rs → KeysRise c b (k + 1) rs
rise_more c b k [] h = h
rise_more c b k (r ∷ rs) h = (h.0, omega (arith, h.1), rise_more c (c r) k rs h.2)

-- ---- at a statement, or at one in a part

abbrev Rise : (ℕ → ℕ) → ℕ → Liveness → Type 0
Rise c k a = KeysRise c 0 k a.roots

rise-one : (c : ℕ → ℕ) (k n m K : ℕ) (a A : Liveness) → Rise c k a → n ≤ m → (n < m → Rise c K A) → Rise c (cond (m == n) k K) (cond (m == n) a A)
rise-one c k n m K a A here l part =
    ⊎_elim
    (λ h. subst (λ i. Rise c i (cond (m == n) a A)) (sym (at-only m n k K h)) (subst (λ i. Rise c K i) (sym (at-only m n a A h)) (part h)))
    (λ h. let e : n ≡ m = omega (arith, l, h) in
    subst (λ i. Rise c (cond (i == n) k K) (cond (i == n) a A)) e
    (subst (λ i. Rise c i (cond (n == n) a A)) (sym (at-self n k K)) (subst (λ i. Rise c k i) (sym (at-self n a A)) here)))
    (cases_lt n m)

rise-two : (c : ℕ → ℕ) (k n b m K L : ℕ) (a A B : Liveness) → Rise c k a → n ≤ m → (n < m → m < b → Rise c K A) → (n < m → b ≤ m → Rise c L B)
    → Rise c (cond (m == n) k (cond (nat_lt m b) K L)) (cond (m == n) a (cond (nat_lt m b) A B))
rise-two c k n b m K L a A B here l first second =
    rise-one c k n m _ a _ here l (λ h. ⊎_elim (λ g. low h g) (λ g. high h g) (cases_lt m b))
  where
    low : n < m → m < b → Rise c (cond (nat_lt m b) K L) (cond (nat_lt m b) A B)
    low h g = by (nat_lt m b) (lt-ltb m b g)
      where
        by : (x : Bool) → x ≡ true → Rise c (cond x K L) (cond x A B)
        by true e = first h g
        by false e = absurd (false≢true e)

    high : n < m → b ≤ m → Rise c (cond (nat_lt m b) K L) (cond (nat_lt m b) A B)
    high h g = by (nat_lt m b) (le-ltb m b g)
      where
        by : (x : Bool) → x ≡ false → Rise c (cond x K L) (cond x A B)
        by true e = absurd (false≢true (sym e))
        by false e = second h g

pub all_rise : (c : ℕ → ℕ) (k : ℕ) (a : Liveness) (t : Term) (n m : ℕ) → OwnKeys c k t n → KeysRise c 0 k a.roots → n ≤ m → m < n + statement_count t
    → KeysRise c 0 (loops_at k t n m) (liveness_at a t n m).roots
all_rise c k a Nothing n m o h l u = h
all_rise c k a Pause n m o h l u = h
all_rise c k a (Emit s) n m o h l u = h
all_rise c k a (Exit x) n m o h l u = h
all_rise c k a (Present e p q) n m o h l u =
    rise-two c k n (n + 1 + statement_count p) m _ _ a _ _ h l
    (λ i j. all_rise c k (part_liveness a p) p (n + 1) m o.0 h (omega (arith, i)) (omega (arith, j)))
    (λ i j. all_rise c k (part_liveness a q) q (n + 1 + statement_count p) m o.1 h j (omega (arith, u)))
all_rise c k a (Suspend e p) n m o h l u =
    rise-one c k n m _ a _ h l (λ i. all_rise c k (part_liveness a p) p (n + 1) m o h (omega (arith, i)) (omega (arith, u)))
all_rise c k a (Seq p q) n m o h l u =
    let b = n + 1 + statement_count p in
    rise-two c k n b m _ _ a _ _ h l
    (λ i j. all_rise c k (part_liveness a p) p (n + 1) m o.1 h (omega (arith, i)) (omega (arith, j)))
    (λ i j. all_rise c k (second_liveness a p q b) q b m o.2
    (rise_if c 0 k b _ (a.resumed && resumed_codes p 0) (omega arith) o.0 (rise_some c 0 k a.roots (started_codes p 0) h)) j (omega (arith, u)))
all_rise c k a (Loop at p) n m o h l u =
    rise-one c k n m _ a _ h l
    (λ i. all_rise c (k + 1) (loop_liveness a p (n + 1)) p (n + 1) m o.1
    (rise_more c 0 k _ (rise_if c 0 k (n + 1) a.roots (a.resumed && resumed_codes p 0) (omega arith) o.0 h)) (omega (arith, i)) (omega (arith, u)))
all_rise c k a (Par p q) n m o h l u =
    rise-two c k n (n + 1 + statement_count p) m _ _ a _ _ h l
    (λ i j. all_rise c k (part_liveness a p) p (n + 1) m o.0 h (omega (arith, i)) (omega (arith, j)))
    (λ i j. all_rise c k (part_liveness a q) q (n + 1 + statement_count p) m o.1 h j (omega (arith, u)))
all_rise c k a (Trap p) n m o h l u =
    rise-one c k n m _ a _ h l (λ i. all_rise c k (part_liveness a p) p (n + 1) m o h (omega (arith, i)) (omega (arith, u)))
all_rise c k a (Local s p) n m o h l u =
    rise-one c k n m _ a _ h l (λ i. all_rise c k (part_liveness a p) p (n + 1) m o h (omega (arith, i)) (omega (arith, u)))
all_rise c k a (Awake e p) n m o h l u = h

-- of a body
pub body_keys_rise : (body : Term) (m : ℕ) → m < statement_count body
    → KeysRise (loops_above 0 0 body 0) 0 (loops_at 0 body 0 m) (liveness_at (body_liveness body) body 0 m).roots
body_keys_rise body m u =
    all_rise (loops_above 0 0 body 0) 0 (body_liveness body) body 0 m (body_own_keys body) (omega arith, omega (arith, above-self 0 0 body 0), tt) (omega arith)
    (omega (arith, u))
