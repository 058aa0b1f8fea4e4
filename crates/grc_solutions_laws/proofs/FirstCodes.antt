-- The first code of a set that has one code, and of one that has none.
use Rattle.std.proofs.Common.{◌≡◌, ℕ, zero, suc, Bool, false, ◌==◌, cond, [], ◌∷◌, ◌++◌, refl, sym, ap, ◌∙◌, ⊎_elim, arith, ◌<◌, get_or, ltb}
use Rattle.std.proofs.lemmas.Bool.{ne_eqb, cond-true, cond-false, lt-ltb, le-ltb, cases_order, eq-eqb}
use Rattle.grc_graph.specs.Wires.{listed, codes_below}

-- of a set with one code, that is the first; of one with none, 0
only_listed : (A : ℕ → Bool) (c : ℕ) → ((k : ℕ) → A k ≡ (k == c)) → (n : ℕ) → codes_below n A ≡ cond (ltb c n) (c ∷ []) []
unfolding codes_below
only_listed A c h zero = sym (cond-false (ltb c 0) (c ∷ []) [] (le-ltb c 0 (omega arith)))
only_listed A c h (suc n) =
    ap (λ l. l ++ cond (A n) (n ∷ []) []) (only_listed A c h n)
    ∙ ap (λ b. cond (ltb c n) (c ∷ []) [] ++ cond b (n ∷ []) []) (h n)
    ∙ ⊎_elim
    (λ e.
    ap (λ b. cond (ltb c n) (c ∷ []) [] ++ cond b (n ∷ []) []) (eq-eqb n c (sym e)) ∙ ap (λ b. cond b (c ∷ []) [] ++ n ∷ []) (le-ltb c n (omega arith))
    ∙ ap (λ m. m ∷ []) (sym e) ∙ sym (cond-true (ltb c (suc n)) (c ∷ []) [] (lt-ltb c (suc n) (omega arith))))
    (λ o.
    ⊎_elim
    (λ l.
    ap (λ b. cond (ltb c n) (c ∷ []) [] ++ cond b (n ∷ []) []) (ne_eqb n c (λ z. omega arith)) ∙ ap (λ b. cond b (c ∷ []) [] ++ []) (lt-ltb c n l)
    ∙ sym (cond-true (ltb c (suc n)) (c ∷ []) [] (lt-ltb c (suc n) (omega arith))))
    (λ l.
    ap (λ b. cond (ltb c n) (c ∷ []) [] ++ cond b (n ∷ []) []) (ne_eqb n c (λ z. omega arith)) ∙ ap (λ b. cond b (c ∷ []) [] ++ []) (le-ltb c n (omega arith))
    ∙ sym (cond-false (ltb c (suc n)) (c ∷ []) [] (le-ltb c (suc n) (omega arith))))
    o)
    (cases_order c n)

pub first_listed : (A : ℕ → Bool) (c : ℕ) → c < 64 → ((k : ℕ) → A k ≡ (k == c)) → get_or (listed A) 0 0 ≡ c
unfolding listed
first_listed A c l h =
    ap (λ xs. get_or xs 0 0) (only_listed A c h 64 ∙ cond-true (ltb c 64) (c ∷ []) [] (lt-ltb c 64 l))

empty_listed : (A : ℕ → Bool) → ((k : ℕ) → A k ≡ false) → (n : ℕ) → codes_below n A ≡ []
unfolding codes_below
empty_listed A h zero = refl
empty_listed A h (suc n) = ap (λ l. l ++ cond (A n) (n ∷ []) []) (empty_listed A h n) ∙ ap (λ b. cond b (n ∷ []) []) (h n)

pub none_listed : (A : ℕ → Bool) → ((k : ℕ) → A k ≡ false) → get_or (listed A) 0 0 ≡ 0
unfolding listed
none_listed A h = ap (λ xs. get_or xs 0 0) (empty_listed A h 64)
