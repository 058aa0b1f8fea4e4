-- The paths of the statements of a body, and how many there are.
use Rattle.std.proofs.Common.{◌≡◌, ℕ, ◌+◌, ◌≤◌, List, [], ◌∷◌, ◌++◌, length, get_or, refl, ap, sym, ◌∙◌, arith, length-append}
use Rattle.std.proofs.lemmas.List.{get_or_past, length-map}
use Rattle.est_kernel.specs.Terms.{Term, Nothing, Present, Suspend, Seq, Loop, Par, Trap, Local, Awake}
use Rattle.est_kernel.specs.Preorder.{statement_count, preorder}
use Rattle.grc_graph.specs.WireNames.{below, paths, path_at, bound_signal, bound_at}

-- ---- lengths

pub long_two : {X : Type 0} (x : X) (xs ys : List X) (m k : ℕ) → length xs ≡ m → length ys ≡ k → length (x ∷ (xs ++ ys)) ≡ 1 + m + k
long_two x xs ys m k e f = omega (arith, length-append xs ys, e, f)

pub long_one : {X : Type 0} (x : X) (xs : List X) (m : ℕ) → length xs ≡ m → length (x ∷ xs) ≡ 1 + m
long_one x xs m e = omega (arith, e)

pub long_below : (c : ℕ) (ps : List (List ℕ)) (m : ℕ) → length ps ≡ m → length (below c ps) ≡ m
long_below c ps m e = length-map ps (λ path. c ∷ path) ∙ e

one_path : (p : Term) → length (paths p) ≡ statement_count p → length ([] ∷ below 0 (paths p)) ≡ 1 + statement_count p
one_path p e = long_one [] (below 0 (paths p)) _ (long_below 0 (paths p) _ e)

two_paths : (p q : Term) → length (paths p) ≡ statement_count p → length (paths q) ≡ statement_count q
    → length ([] ∷ (below 0 (paths p) ++ below 1 (paths q))) ≡ 1 + statement_count p + statement_count q
two_paths p q e f = long_two [] (below 0 (paths p)) (below 1 (paths q)) _ _ (long_below 0 (paths p) _ e) (long_below 1 (paths q) _ f)

pub length-paths : (t : Term) → length (paths t) ≡ statement_count t
length-paths (Present e p q) = two_paths p q (length-paths p) (length-paths q)
length-paths (Suspend e p) = one_path p (length-paths p)
length-paths (Seq p q) = two_paths p q (length-paths p) (length-paths q)
length-paths (Loop at p) = one_path p (length-paths p)
length-paths (Par p q) = two_paths p q (length-paths p) (length-paths q)
length-paths (Trap p) = one_path p (length-paths p)
length-paths (Local s p) = one_path p (length-paths p)
length-paths (Awake e p) = one_path p (length-paths p)
length-paths _ = refl

pub length-preorder : (t : Term) → length (preorder t) ≡ statement_count t
length-preorder (Present e p q) =
    long_two (Present e p q) (preorder p) (preorder q) (statement_count p) (statement_count q) (length-preorder p) (length-preorder q)
length-preorder (Suspend e p) = long_one (Suspend e p) (preorder p) (statement_count p) (length-preorder p)
length-preorder (Seq p q) = long_two (Seq p q) (preorder p) (preorder q) (statement_count p) (statement_count q) (length-preorder p) (length-preorder q)
length-preorder (Loop at p) = long_one (Loop at p) (preorder p) (statement_count p) (length-preorder p)
length-preorder (Par p q) = long_two (Par p q) (preorder p) (preorder q) (statement_count p) (statement_count q) (length-preorder p) (length-preorder q)
length-preorder (Trap p) = long_one (Trap p) (preorder p) (statement_count p) (length-preorder p)
length-preorder (Local s p) = long_one (Local s p) (preorder p) (statement_count p) (length-preorder p)
length-preorder (Awake e p) = long_one (Awake e p) (preorder p) (statement_count p) (length-preorder p)
length-preorder _ = refl

pub first_path : (t : Term) → get_or (paths t) 0 [] ≡ []
first_path Nothing = refl
first_path _ = refl

pub path_at-past : (body : Term) (j : ℕ) → statement_count body ≤ j → path_at body 0 ≡ path_at body j
path_at-past body j h = first_path body ∙ sym (get_or_past (paths body) j [] (omega (arith, length-paths body, h)))

pub bound_at-past : (body : Term) (j : ℕ) → statement_count body ≤ j → bound_at body j ≡ bound_signal Nothing
bound_at-past body j h = ap bound_signal (get_or_past (preorder body) j Nothing (omega (arith, length-preorder body, h)))
