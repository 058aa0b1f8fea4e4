-- The head of each statement is read off the list of heads, and each instance is of a statement.
use Rattle.std.proofs.Common.{◌≡◌, ℕ, zero, suc, ◌+◌, ◌-◌, ◌<◌, ◌==◌, cond, ltb, List, [], ◌∷◌, ◌++◌, length, get_or}
use Rattle.std.proofs.Common.{refl, sym, ap, ◌∙◌, arith, ⊎_elim}
use Rattle.std.proofs.lemmas.Bool.{cases_lt, eq-eqb, ne_eqb, cond-true, cond-false, lt-ltb, le-ltb}
use Rattle.std.proofs.lemmas.List.{length-map, get_or-map, length-append, get_or_append_left, get_or-append-add}
use Rattle.est_kernel.specs.Preorder.{statement_count}
use Rattle.est_kernel.specs.Terms.{Term, Nothing, Pause, Emit, Exit, Present, Suspend, Seq, Loop, Par, Trap, Local, Awake}
use Rattle.grc_solutions_laws.specs.Heads.{head_in}
use Rattle.grc_regions.specs.HeadLists.{heads_of}

pub length-heads : (h : ℕ) (t : Term) (n : ℕ) → length (heads_of h t n) ≡ statement_count t
length-heads h (Present e p q) n =
    let m = n + 1 + statement_count p in
    omega (arith, length-append (heads_of h p (n + 1)) (heads_of h q m), length-heads h p (n + 1), length-heads h q m)
length-heads h (Suspend e p) n = omega (arith, length-heads h p (n + 1))
length-heads h (Seq p q) n =
    let m = n + 1 + statement_count p in
    omega (arith, length-append (heads_of h p (n + 1)) (heads_of h q m), length-heads h p (n + 1), length-heads h q m)
length-heads h (Loop at p) n = omega (arith, length-heads h p (n + 1))
length-heads h (Par p q) n =
    let m = n + 1 + statement_count p in
    omega (arith, length-append (heads_of (n + 1) p (n + 1)) (heads_of m q m), length-heads (n + 1) p (n + 1), length-heads m q m)
length-heads h (Trap p) n = omega (arith, length-heads h p (n + 1))
length-heads h (Local s p) n = omega (arith, length-heads h p (n + 1))
length-heads h (Awake e p) n = omega (arith, length-map (heads_of h p (n + 1)) (λ m. h), length-heads h p (n + 1))
length-heads h _ n = refl

-- ---- the head of a statement, by its place in the list

leaf-head : (h k : ℕ) → k < 1 → get_or (h ∷ []) k 0 ≡ h
leaf-head h zero l = refl
leaf-head h (suc k) l = absurd (omega (arith, l))

one-head : (h n k : ℕ) (part : List ℕ) (inside : ℕ → ℕ) → ((j : ℕ) → j + 1 ≡ k → get_or part j 0 ≡ inside (n + 1 + j))
    → get_or (h ∷ part) k 0 ≡ cond (n + k == n) h (inside (n + k))
one-head h n zero part inside f = sym (cond-true (n + 0 == n) h _ (eq-eqb (n + 0) n (omega arith)))
one-head h n (suc j) part inside f =
    let e : n + 1 + j ≡ n + suc j = omega arith in
    f j (omega arith) ∙ ap inside e ∙ sym (cond-false (n + suc j == n) h _ (ne_eqb (n + suc j) n (λ e. omega (arith, e))))

two-head : (h n c k : ℕ) (first second : List ℕ) (inside other : ℕ → ℕ) → length first ≡ c
    → ((j : ℕ) → j + 1 ≡ k → j < c → get_or first j 0 ≡ inside (n + 1 + j))
    → ((j : ℕ) → j + 1 + c ≡ k → get_or second j 0 ≡ other (n + 1 + c + j))
    → get_or (h ∷ (first ++ second)) k 0 ≡ cond (n + k == n) h (cond (ltb (n + k) (n + 1 + c)) (inside (n + k)) (other (n + k)))
two-head h n c k first second inside other wide f g =
    one-head h n k (first ++ second) (λ m. cond (ltb m (n + 1 + c)) (inside m) (other m))
    (λ j e. ⊎_elim
    (λ l. get_or_append_left first second 0 j (omega (arith, l, wide)) ∙ f j e l
    ∙ sym (cond-true (ltb (n + 1 + j) (n + 1 + c)) (inside (n + 1 + j)) _ (lt-ltb (n + 1 + j) (n + 1 + c) (omega (arith, l)))))
    (λ l.
    let i = j - c in
    let at : length first + i ≡ j = omega (arith, l, wide) in
    let to : n + 1 + c + i ≡ n + 1 + j = omega (arith, l) in
    ap (λ m. get_or (first ++ second) m 0) (sym at) ∙ get_or-append-add first second i 0 ∙ g i (omega (arith, l, e)) ∙ ap other to
    ∙ sym (cond-false (ltb (n + 1 + j) (n + 1 + c)) _ (other (n + 1 + j)) (le-ltb (n + 1 + j) (n + 1 + c) (omega (arith, l)))))
    (cases_lt j c))

pub heads-at : (h : ℕ) (t : Term) (n k : ℕ) → k < statement_count t → get_or (heads_of h t n) k 0 ≡ head_in h t n (n + k)
heads-at h Nothing n k l = leaf-head h k l
heads-at h Pause n k l = leaf-head h k l
heads-at h (Emit s) n k l = leaf-head h k l
heads-at h (Exit c) n k l = leaf-head h k l
heads-at h (Present e p q) n k l =
    let m = n + 1 + statement_count p in
    two-head h n (statement_count p) k (heads_of h p (n + 1)) (heads_of h q m) (head_in h p (n + 1)) (head_in h q m) (length-heads h p (n + 1))
    (λ j e b. heads-at h p (n + 1) j b) (λ j e. heads-at h q m j (omega (arith, l, e)))
heads-at h (Suspend e p) n k l = one-head h n k (heads_of h p (n + 1)) (head_in h p (n + 1)) (λ j e. heads-at h p (n + 1) j (omega (arith, l, e)))
heads-at h (Seq p q) n k l =
    let m = n + 1 + statement_count p in
    two-head h n (statement_count p) k (heads_of h p (n + 1)) (heads_of h q m) (head_in h p (n + 1)) (head_in h q m) (length-heads h p (n + 1))
    (λ j e b. heads-at h p (n + 1) j b) (λ j e. heads-at h q m j (omega (arith, l, e)))
heads-at h (Loop at p) n k l = one-head h n k (heads_of h p (n + 1)) (head_in h p (n + 1)) (λ j e. heads-at h p (n + 1) j (omega (arith, l, e)))
heads-at h (Par p q) n k l =
    let m = n + 1 + statement_count p in
    two-head h n (statement_count p) k (heads_of (n + 1) p (n + 1)) (heads_of m q m) (head_in (n + 1) p (n + 1)) (head_in m q m)
    (length-heads (n + 1) p (n + 1)) (λ j e b. heads-at (n + 1) p (n + 1) j b) (λ j e. heads-at m q m j (omega (arith, l, e)))
heads-at h (Trap p) n k l = one-head h n k (heads_of h p (n + 1)) (head_in h p (n + 1)) (λ j e. heads-at h p (n + 1) j (omega (arith, l, e)))
heads-at h (Local s p) n k l = one-head h n k (heads_of h p (n + 1)) (head_in h p (n + 1)) (λ j e. heads-at h p (n + 1) j (omega (arith, l, e)))
heads-at h (Awake e p) n zero l = refl
heads-at h (Awake e p) n (suc k) l =
    get_or-map (λ m. h) (heads_of h p (n + 1)) k 0 0 (omega (arith, l, length-heads h p (n + 1)))
