-- Two valuations that agree in what an instance and its parts do give its ends one value.
use Rattle.std.proofs.Common.{◌≡◌, ℕ, zero, suc, ◌+◌, Bool, true, false, ◌&&◌, ◌||◌, ◌==◌, cond, List, [], ◌∷◌, ◌++◌, refl, ap, ◌∙◌}
use Rattle.std.specs.Prelude.{⊤}
use Rattle.base_types.specs.Codes.{except}
use Rattle.est_kernel.specs.Preorder.{statement_count}
use Rattle.est_kernel.specs.StaticCodes.{codes_if, has_code, resumed_codes, started_codes}
use Rattle.est_kernel.specs.Terms.{Expression, Term, Nothing, Pause, Emit, Exit, Present, Suspend, Seq, Loop, Par, Trap, Local, Awake}
use Rattle.grc_graph.specs.Equations.{branch_end, branch_over, branch_upto, end_formula, part_end, trapped_ends}
use Rattle.grc_graph.specs.Formulas.{Formula, Value, Selected, Upto, Negation, Conjunction, any_of}
use Rattle.grc_graph.specs.GraphRuns.{PlainGraph, formula_value}
use Rattle.grc_graph.specs.Layers.{Layer, Resumed, Started, can_pass}
use Rattle.grc_graph.specs.Readings.{Valuation}
use Rattle.grc_graph.specs.Scopes.{Scope}
use Rattle.grc_graph.specs.Selected.{HasExitCodes}
use Rattle.grc_graph.specs.Spots.{test_formula}
use Rattle.grc_graph.specs.Walk.{State}
use Rattle.grc_graph.specs.Wires.{Go, End}
use Rattle.grc_share_laws.proofs.Lists.{upto-same}
use Rattle.grc_share_laws.proofs.Reached.{Parts}

-- a fact of the part that a resumed statement starts at a root of its own
abbrev pub OwnStarts : (ℕ → Type 0) → Term → ℕ → Type 0
OwnStarts P Nothing n = ⊤
OwnStarts P Pause n = ⊤
OwnStarts P (Emit s) n = ⊤
OwnStarts P (Exit k) n = ⊤
OwnStarts P (Present e p q) n = ⊤
OwnStarts P (Suspend e p) n = ⊤
OwnStarts P (Seq p q) n = P (n + 1 + statement_count p)
OwnStarts P (Loop at p) n = P (n + 1)
OwnStarts P (Par p q) n = ⊤
OwnStarts P (Trap p) n = ⊤
OwnStarts P (Local s p) n = ⊤
OwnStarts P (Awake e p) n = ⊤

pub and-like : (a b c d : Bool) → a ≡ b → (a ≡ true → c ≡ d) → (a && c) ≡ (b && d)
and-like true b c d e f = f refl ∙ ap (λ x. x && d) e
and-like false b c d e f = ap (λ x. x && d) e

module _ (g : PlainGraph) (q : State) (event : List Bool) (U X : Valuation) where
  abbrev uval : Formula → Bool
  uval a = formula_value g q event U a

  abbrev xval : Formula → Bool
  xval a = formula_value g q event X a

  -- formulas of one list are worth what those of the other are
  abbrev pub Alike : List Formula → List Formula → Type 0
  Alike [] [] = ⊤
  Alike [] (b ∷ bs) = ⊥
  Alike (a ∷ rest) [] = ⊥
  Alike (a ∷ rest) (b ∷ bs) = (formula_value g q event U a ≡ formula_value g q event X b) × Alike rest bs

  pub any-alike : (xs ys : List Formula) → Alike xs ys → formula_value g q event U (any_of xs) ≡ formula_value g q event X (any_of ys)
  any-alike [] [] h = refl
  any-alike [] (b ∷ bs) h = absurd h
  any-alike (a ∷ rest) [] h = absurd h
  any-alike (a ∷ []) (b ∷ []) h = h.0
  any-alike (a ∷ []) (b ∷ (d ∷ bs)) h = absurd h.1
  any-alike (a ∷ (c ∷ rest)) (b ∷ []) h = absurd h.1
  any-alike (a ∷ (c ∷ rest)) (b ∷ (d ∷ bs)) h =
      ap (λ y. y || uval (any_of (c ∷ rest))) h.0 ∙ ap (λ y. xval b || y) (any-alike (c ∷ rest) (d ∷ bs) h.1)

  append-alike : (xs ys us vs : List Formula) → Alike xs ys → Alike us vs → Alike (xs ++ us) (ys ++ vs)
  append-alike [] [] us vs h i = i
  append-alike [] (b ∷ bs) us vs h i = absurd h
  append-alike (a ∷ rest) [] us vs h i = absurd h
  append-alike (a ∷ rest) (b ∷ bs) us vs h i = (h.0, append-alike rest bs us vs h.1 i)

  if-alike : (b : Bool) (xs ys : List Formula) → Alike xs ys → Alike (cond b xs []) (cond b ys [])
  if-alike true xs ys h = h
  if-alike false xs ys h = tt

  -- the ends of a part
  abbrev pub Ends : Layer → Layer → ℕ → Type 0
  Ends l j c = (i : ℕ) → U (End c l i) ≡ X (End c j i)

  part-alike : (A : ℕ → Bool) (c : ℕ) (l j : Layer) (k : ℕ) → Ends l j c → Alike (part_end A c l k) (part_end A c j k)
  part-alike A c l j k h = if-alike (A k) (Value (End c l k) ∷ []) (Value (End c j k) ∷ []) (h k, tt)

  two-alike : (A C : ℕ → Bool) (c d : ℕ) (l j m i : Layer) (k : ℕ) → Ends l j c → Ends m i d
      → Alike (part_end A c l k ++ part_end C d m k) (part_end A c j k ++ part_end C d i k)
  two-alike A C c d l j m i k h g =
      append-alike (part_end A c l k) (part_end A c j k) (part_end C d m k) (part_end C d i k) (part-alike A c l j k h) (part-alike C d m i k g)

  upto-alike : (c : ℕ) (l j : Layer) (k : ℕ) → Ends l j c → uval (Upto c l k) ≡ xval (Upto c j k)
  upto-alike c l j k h = upto-same (λ i. U (End c l i)) (λ i. X (End c j i)) h k

  trapped-alike : (A : ℕ → Bool) (c : ℕ) (l j : Layer) (k : ℕ) → Ends l j c → Alike (trapped_ends A c l k) (trapped_ends A c j k)
  trapped-alike A c l j zero h =
      append-alike (part_end A c l 0) (part_end A c j 0) (part_end A c l 2) (part_end A c j 2) (part-alike A c l j 0 h) (part-alike A c l j 2 h)
  trapped-alike A c l j (suc zero) h = part-alike A c l j 1 h
  trapped-alike A c l j (suc (suc k)) h = part-alike A c l j (suc (suc (suc k))) h

  conj-alike : (a b c d : Formula) → uval a ≡ xval b → uval c ≡ xval d → uval (Conjunction a c) ≡ xval (Conjunction b d)
  conj-alike a b c d h g = ap (λ y. y && uval c) h ∙ ap (λ y. xval b && y) g

  -- ---- what is started

  pub started-alike : (B : Scope) (t : Term) (n r s k : ℕ) → HasExitCodes t → U (Go n (Started r)) ≡ X (Go n (Started s))
      → Parts (Ends (Started r) (Started s)) t n
      → formula_value g q event U (end_formula B t n (Started r) k) ≡ formula_value g q event X (end_formula B t n (Started s) k)
  started-alike B Nothing n r s k x h e = h
  started-alike B Pause n r s k x h e = h
  started-alike B (Emit u) n r s k x h e = h
  started-alike B (Exit c) n r s k x h e = h
  started-alike B (Present t p q) n r s k x h e =
      let m = n + 1 + statement_count p in
      any-alike (part_end (started_codes p) (n + 1) (Started r) k ++ part_end (started_codes q) m (Started r) k)
      (part_end (started_codes p) (n + 1) (Started s) k ++ part_end (started_codes q) m (Started s) k)
      (two-alike (started_codes p) (started_codes q) (n + 1) m (Started r) (Started s) (Started r) (Started s) k e.0 e.1)
  started-alike B (Suspend t p) n r s k x h e =
      any-alike (part_end (started_codes p) (n + 1) (Started r) k) (part_end (started_codes p) (n + 1) (Started s) k)
      (part-alike (started_codes p) (n + 1) (Started r) (Started s) k e)
  started-alike B (Seq p q) n r s k x h e =
      let m = n + 1 + statement_count p in
      let A = except 0 (started_codes p) in
      let C = codes_if (started_codes p 0) (started_codes q) in
      any-alike (part_end A (n + 1) (Started r) k ++ part_end C m (Started r) k) (part_end A (n + 1) (Started s) k ++ part_end C m (Started s) k)
      (two-alike A C (n + 1) m (Started r) (Started s) (Started r) (Started s) k e.0 e.1)
  started-alike B (Loop at p) n r s k x h e =
      let A = except 0 (started_codes p) in
      any-alike (part_end A (n + 1) (Started r) k) (part_end A (n + 1) (Started s) k) (part-alike A (n + 1) (Started r) (Started s) k e)
  started-alike B (Par p q) n r s k x h e =
      let m = n + 1 + statement_count p in
      let A = started_codes p in
      let C = started_codes q in
      let xs = part_end A (n + 1) (Started r) k ++ part_end C m (Started r) k in
      let ys = part_end A (n + 1) (Started s) k ++ part_end C m (Started s) k in
      conj-alike (Upto (n + 1) (Started r) k) (Upto (n + 1) (Started s) k)
      (Conjunction (Upto m (Started r) k) (any_of xs)) (Conjunction (Upto m (Started s) k) (any_of ys))
      (upto-alike (n + 1) (Started r) (Started s) k e.0)
      (conj-alike (Upto m (Started r) k) (Upto m (Started s) k) (any_of xs) (any_of ys) (upto-alike m (Started r) (Started s) k e.1)
      (any-alike xs ys (two-alike A C (n + 1) m (Started r) (Started s) (Started r) (Started s) k e.0 e.1)))
  started-alike B (Trap p) n r s k x h e =
      any-alike (trapped_ends (started_codes p) (n + 1) (Started r) k) (trapped_ends (started_codes p) (n + 1) (Started s) k)
      (trapped-alike (started_codes p) (n + 1) (Started r) (Started s) k e)
  started-alike B (Local u p) n r s k x h e =
      any-alike (part_end (started_codes p) (n + 1) (Started r) k) (part_end (started_codes p) (n + 1) (Started s) k)
      (part-alike (started_codes p) (n + 1) (Started r) (Started s) k e)
  started-alike B (Awake t p) n r s k x h e = absurd x

  -- ---- what is resumed

  over-alike : (n c : ℕ) → U (Go n Resumed) ≡ X (Go n Resumed) → uval (branch_over n c) ≡ xval (branch_over n c)
  over-alike n c h = ap (λ y. uval (Negation (Selected c)) && y) h

  branch-upto-alike : (A : ℕ → Bool) (n c k : ℕ) → U (Go n Resumed) ≡ X (Go n Resumed) → Ends Resumed Resumed c
      → uval (branch_upto A n c k) ≡ xval (branch_upto A n c k)
  branch-upto-alike A n c k h e =
      let xs = Conjunction (Selected c) (Upto c Resumed k) ∷ [] in
      any-alike (cond (has_code A) xs [] ++ (branch_over n c ∷ [])) (cond (has_code A) xs [] ++ (branch_over n c ∷ []))
      (append-alike (cond (has_code A) xs []) (cond (has_code A) xs []) (branch_over n c ∷ []) (branch_over n c ∷ [])
      (if-alike (has_code A) xs xs (ap (λ y. uval (Selected c) && y) (upto-alike c Resumed Resumed k e), tt)) (over-alike n c h, tt))

  branch-end-alike : (A : ℕ → Bool) (n c k : ℕ) → U (Go n Resumed) ≡ X (Go n Resumed) → Ends Resumed Resumed c
      → Alike (branch_end A n c k) (branch_end A n c k)
  branch-end-alike A n c k h e =
      let xs = Conjunction (Selected c) (Value (End c Resumed k)) ∷ [] in
      let ys = branch_over n c ∷ [] in
      append-alike (cond (A k) xs []) (cond (A k) xs []) (cond (k == 0) ys []) (cond (k == 0) ys [])
      (if-alike (A k) xs xs (ap (λ y. uval (Selected c) && y) (e k), tt)) (if-alike (k == 0) ys ys (over-alike n c h, tt))

  pub resumed-alike : (B : Scope) (t : Term) (n k : ℕ) → HasExitCodes t → U (Go n Resumed) ≡ X (Go n Resumed)
      → Parts (Ends Resumed Resumed) t n → OwnStarts (λ c. Ends (Started c) (Started c) c) t n
      → ((e : Expression) → U (Go n Resumed) ≡ true → formula_value g q event U (test_formula B e Resumed) ≡ formula_value g q event X
      (test_formula B e Resumed))
      → formula_value g q event U (end_formula B t n Resumed k) ≡ formula_value g q event X (end_formula B t n Resumed k)
  resumed-alike B Nothing n k x h e o z = h
  resumed-alike B Pause n k x h e o z = h
  resumed-alike B (Emit u) n k x h e o z = h
  resumed-alike B (Exit c) n k x h e o z = h
  resumed-alike B (Present t p q) n k x h e o z =
      let m = n + 1 + statement_count p in
      let xs = part_end (resumed_codes p) (n + 1) Resumed k ++ part_end (resumed_codes q) m Resumed k in
      any-alike xs xs (two-alike (resumed_codes p) (resumed_codes q) (n + 1) m Resumed Resumed Resumed Resumed k e.0 e.1)
  resumed-alike B (Suspend t p) n k x h e o z =
      let A = resumed_codes p in
      let ys = Conjunction (Value (Go n Resumed)) (test_formula B t Resumed) ∷ [] in
      let xs = part_end A (n + 1) Resumed k ++ cond (k == 1) ys [] in
      any-alike xs xs
      (append-alike (part_end A (n + 1) Resumed k) (part_end A (n + 1) Resumed k) (cond (k == 1) ys []) (cond (k == 1) ys [])
      (part-alike A (n + 1) Resumed Resumed k e)
      (if-alike (k == 1) ys ys
      (and-like (U (Go n Resumed)) (X (Go n Resumed)) (uval (test_formula B t Resumed)) (xval (test_formula B t Resumed)) h (z t), tt)))
  resumed-alike B (Seq p q) n k x h e o z =
      let m = n + 1 + statement_count p in
      let A = except 0 (resumed_codes p) in
      let C = codes_if (can_pass p) (resumed_codes q) in
      let D = codes_if (resumed_codes p 0) (started_codes q) in
      let us = part_end C m Resumed k ++ part_end D m (Started m) k in
      let xs = part_end A (n + 1) Resumed k ++ us in
      any-alike xs xs
      (append-alike (part_end A (n + 1) Resumed k) (part_end A (n + 1) Resumed k) us us (part-alike A (n + 1) Resumed Resumed k e.0)
      (two-alike C D m m Resumed Resumed (Started m) (Started m) k e.1 o))
  resumed-alike B (Loop at p) n k x h e o z =
      let A = except 0 (resumed_codes p) in
      let C = codes_if (resumed_codes p 0) (except 0 (started_codes p)) in
      let xs = part_end A (n + 1) Resumed k ++ part_end C (n + 1) (Started (n + 1)) k in
      any-alike xs xs (two-alike A C (n + 1) (n + 1) Resumed Resumed (Started (n + 1)) (Started (n + 1)) k e o)
  resumed-alike B (Par p q) n k x h e o z =
      let m = n + 1 + statement_count p in
      let A = resumed_codes p in
      let C = resumed_codes q in
      let xs = branch_end A n (n + 1) k ++ branch_end C n m k in
      conj-alike (branch_upto A n (n + 1) k) (branch_upto A n (n + 1) k)
      (Conjunction (branch_upto C n m k) (any_of xs)) (Conjunction (branch_upto C n m k) (any_of xs))
      (branch-upto-alike A n (n + 1) k h e.0)
      (conj-alike (branch_upto C n m k) (branch_upto C n m k) (any_of xs) (any_of xs) (branch-upto-alike C n m k h e.1)
      (any-alike xs xs
      (append-alike (branch_end A n (n + 1) k) (branch_end A n (n + 1) k) (branch_end C n m k) (branch_end C n m k)
      (branch-end-alike A n (n + 1) k h e.0) (branch-end-alike C n m k h e.1))))
  resumed-alike B (Trap p) n k x h e o z =
      let xs = trapped_ends (resumed_codes p) (n + 1) Resumed k in
      any-alike xs xs (trapped-alike (resumed_codes p) (n + 1) Resumed Resumed k e)
  resumed-alike B (Local u p) n k x h e o z =
      let xs = part_end (resumed_codes p) (n + 1) Resumed k in
      any-alike xs xs (part-alike (resumed_codes p) (n + 1) Resumed Resumed k e)
  resumed-alike B (Awake t p) n k x h e o z = absurd x
