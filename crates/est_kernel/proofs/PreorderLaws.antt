-- Places of preorder: what stands at a place, and its parts behind it.
use Rattle.std.proofs.Common.{◌≡◌, ℕ, zero, suc, ◌+◌, ◌-◌, ◌<◌, List, [], ◌∷◌, ◌++◌, length, slice_get, Some, refl, sym, ap, ◌∙◌, subst, ⊎_elim, arith, ◌≤◌}
use Rattle.std.proofs.lemmas.Bool.{cases_lt}
use Rattle.est_kernel.specs.Terms.{Term, Nothing, Pause, Emit, Exit, Present, Suspend, Seq, Loop, Par, Trap, Local, Awake}
use Rattle.est_kernel.specs.Preorder.{parts, preorder, statement_count}
use Rattle.est_kernel.specs.Laws.{StandAt, PreorderPlaces}
use Rattle.est_kernel.proofs.CodeLaws.{length-preorder}

-- what stands in the middle of a list
pub record Within (whole middle : List Term) (start : ℕ) : Type 0 where
  pub at : (n : ℕ) (t : Term) → slice_get middle n ≡ Some t → slice_get whole (start + n) ≡ Some t

within_tail : (t : Term) (list : List Term) → Within (t ∷ list) list 1
within_tail t list = record { at = λ n u e. let k : 1 + n ≡ suc n = omega arith in ap (slice_get (t ∷ list)) k ∙ e }

get_left : (a b : List Term) (n : ℕ) (t : Term) → slice_get a n ≡ Some t → slice_get (a ++ b) n ≡ Some t
get_left [] b n t e = cc
get_left (x ∷ a) b zero t e = e
get_left (x ∷ a) b (suc n) t e = get_left a b n t e

get_right : (a b : List Term) (n : ℕ) → slice_get (a ++ b) (length a + n) ≡ slice_get b n
get_right [] b n = let k : 0 + n ≡ n = omega arith in ap (slice_get b) k
get_right (x ∷ a) b n = let k : suc (length a) + n ≡ suc (length a + n) = omega arith in ap (slice_get (x ∷ (a ++ b))) k ∙ get_right a b n

within_left : (a b : List Term) → Within (a ++ b) a 0
within_left a b = record { at = λ n t e. let k : 0 + n ≡ n = omega arith in ap (slice_get (a ++ b)) k ∙ get_left a b n t e }

within_right : (a b : List Term) → Within (a ++ b) b (length a)
within_right a b = record { at = λ n t e. get_right a b n ∙ e }

within_within : {a b c : List Term} {m n : ℕ} → Within a b m → Within b c n → Within a c (m + n)
within_within {a} {b} {c} {m} {n} f g = record {
  at = λ k t e. let h : m + n + k ≡ m + (n + k) = omega arith in
      ap (slice_get a) h ∙ f.at (n + k) t (g.at k t e);
}

-- parts that stand in the middle stand in the whole
stand_within : {whole middle : List Term} {start : ℕ} → Within whole middle start → (ps : List Term) (n : ℕ) → StandAt middle ps n →
    StandAt whole ps (start + n)
stand_within w [] n h = tt
stand_within {whole} {middle} {start} w (p ∷ ps) n h =
    let e : start + (n + statement_count p) ≡ start + n + statement_count p = omega arith in
    (w.at n p h.0, subst (λ k. StandAt whole ps k) e (stand_within w ps (n + statement_count p) h.1))

whole_first : (p : Term) → slice_get (preorder p) 0 ≡ Some p
whole_first Nothing = refl
whole_first Pause = refl
whole_first (Emit s) = refl
whole_first (Exit k) = refl
whole_first (Present e p q) = refl
whole_first (Suspend e p) = refl
whole_first (Seq p q) = refl
whole_first (Loop at p) = refl
whole_first (Par p q) = refl
whole_first (Trap p) = refl
whole_first (Local s p) = refl
whole_first (Awake e p) = refl

-- the law for one statement
abbrev Behind : Term → Type 0
Behind p = (t : Term) (n : ℕ) → slice_get (preorder p) n ≡ Some t → StandAt (preorder p) (parts t) (n + 1)

-- a place behind the first one is a place of the rest
record Later (list : List Term) : Type 0 where
  at : (t : Term) (n : ℕ) → slice_get list n ≡ Some t → StandAt list (parts t) (n + 1)

later_of : (p : Term) → Behind p → Later (preorder p)
later_of p b = record { at = b }

joined : (a b : List Term) → Later a → Later b → Later (a ++ b)
joined a b f g = record {
  at = λ t n e. ⊎_elim
      (λ lt.
      let k : 0 + (n + 1) ≡ n + 1 = omega arith in
      subst (λ m. StandAt (a ++ b) (parts t) m) k (stand_within (within_left a b) (parts t) (n + 1) (f.at t n (sym (get_in_left a b n lt) ∙ e))))
      (λ ge.
      let k : length a + (n - length a) ≡ n = omega arith in
      let at_right : slice_get b (n - length a) ≡ Some t = sym (get_right a b (n - length a)) ∙ ap (slice_get (a ++ b)) k ∙ e in
      let h = stand_within (within_right a b) (parts t) (n - length a + 1) (g.at t (n - length a) at_right) in
      let place : length a + (n - length a + 1) ≡ n + 1 = omega arith in
      subst (λ m. StandAt (a ++ b) (parts t) m) place h)
      (cases_lt n (length a));
}
  where
    get_in_left : (a b : List Term) (n : ℕ) → n < length a → slice_get (a ++ b) n ≡ slice_get a n
    get_in_left [] b n h = absurd (omega (arith, h))
    get_in_left (x ∷ a) b zero h = refl
    get_in_left (x ∷ a) b (suc n) h = get_in_left a b n (omega (arith, h))

-- a statement in front of the statements of its parts
under : (p : Term) (list : List Term) → StandAt (p ∷ list) (parts p) 1 → Later list → (t : Term) (n : ℕ) → slice_get (p ∷ list) n ≡ Some t →
    StandAt (p ∷ list) (parts t) (n + 1)
under p list h f t zero e = subst (λ u. StandAt (p ∷ list) (parts u) 1) (some_is p t e) h
  where
    some_is : (a b : Term) → Some a ≡ Some b → a ≡ b
    some_is a b e = cc
under p list h f t (suc n) e =
    let k : 1 + (n + 1) ≡ suc n + 1 = omega arith in
    subst (λ m. StandAt (p ∷ list) (parts t) m) k (stand_within (within_tail p list) (parts t) (n + 1) (f.at t n e))

one_part : (t p : Term) → StandAt (t ∷ preorder p) (p ∷ []) 1
one_part t p = (whole_first p, tt)

two_parts : (t p q : Term) → StandAt (t ∷ (preorder p ++ preorder q)) (p ∷ q ∷ []) 1
two_parts t p q =
    let k : length (preorder p) + 0 ≡ statement_count p = omega (arith, length-preorder p) in
    let second : slice_get (preorder p ++ preorder q) (statement_count p) ≡ Some q = sym (ap (slice_get (preorder p ++ preorder q)) k)
    ∙ get_right (preorder p) (preorder q) 0 ∙ whole_first q in
    (get_left (preorder p) (preorder q) 0 p (whole_first p), ((within_tail t (preorder p ++ preorder q)).at (statement_count p) q second, tt))

behind : (p : Term) → Behind p
behind Nothing = under Nothing [] tt (record { at = λ t n e. cc })
behind Pause = under Pause [] tt (record { at = λ t n e. cc })
behind (Emit s) = under (Emit s) [] tt (record { at = λ t n e. cc })
behind (Exit k) = under (Exit k) [] tt (record { at = λ t n e. cc })
behind (Present e p q) = under (Present e p q) (preorder p ++ preorder q) (two_parts (Present e p q) p q)
    (joined (preorder p) (preorder q) (later_of p (behind p)) (later_of q (behind q)))
behind (Suspend e p) = under (Suspend e p) (preorder p) (one_part (Suspend e p) p) (later_of p (behind p))
behind (Seq p q) = under (Seq p q) (preorder p ++ preorder q) (two_parts (Seq p q) p q)
    (joined (preorder p) (preorder q) (later_of p (behind p)) (later_of q (behind q)))
behind (Loop at p) = under (Loop at p) (preorder p) (one_part (Loop at p) p) (later_of p (behind p))
behind (Par p q) = under (Par p q) (preorder p ++ preorder q) (two_parts (Par p q) p q)
    (joined (preorder p) (preorder q) (later_of p (behind p)) (later_of q (behind q)))
behind (Trap p) = under (Trap p) (preorder p) (one_part (Trap p) p) (later_of p (behind p))
behind (Local s p) = under (Local s p) (preorder p) (one_part (Local s p) p) (later_of p (behind p))
behind (Awake e p) = under (Awake e p) (preorder p) (one_part (Awake e p) p) (later_of p (behind p))

pub preorder_places_lem : PreorderPlaces
preorder_places_lem = record { whole = whole_first; parts_behind = behind }

pub statement_count-pos : (p : Term) → 0 < statement_count p
statement_count-pos Nothing = omega arith
statement_count-pos Pause = omega arith
statement_count-pos (Emit s) = omega arith
statement_count-pos (Exit c) = omega arith
statement_count-pos (Present e p q) = omega arith
statement_count-pos (Suspend e p) = omega arith
statement_count-pos (Seq p q) = omega arith
statement_count-pos (Loop at p) = omega arith
statement_count-pos (Par p q) = omega arith
statement_count-pos (Trap p) = omega arith
statement_count-pos (Local s p) = omega arith
statement_count-pos (Awake e p) = omega arith

pub statement_count-some : (t : Term) → 1 ≤ statement_count t
statement_count-some Nothing = omega arith
statement_count-some Pause = omega arith
statement_count-some (Emit s) = omega arith
statement_count-some (Exit c) = omega arith
statement_count-some (Present e p q) = omega arith
statement_count-some (Suspend e p) = omega arith
statement_count-some (Seq p q) = omega arith
statement_count-some (Loop at p) = omega arith
statement_count-some (Par p q) = omega arith
statement_count-some (Trap p) = omega arith
statement_count-some (Local s p) = omega arith
statement_count-some (Awake e p) = omega arith
