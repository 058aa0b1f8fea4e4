-- What names its shared instance stands in a statement whose instance, as seen from it, names its shared one.
use Rattle.std.proofs.Common.{◌≡◌, ℕ, ◌<◌, ◌≤◌, ◌==◌, ◌&&◌, ◌||◌, Bool, true, false, cond, List, [], ◌∷◌, ◌++◌, get_or}
use Rattle.std.proofs.Common.{refl, sym, ap, ◌∙◌, subst, ⊎_elim, arith, Some}
use Rattle.std.specs.Prelude.{Contains}
use Rattle.std.specs.List.{list_any}
use Rattle.std.proofs.lemmas.Bool.{and_from, both_ways, cases_lt, eq-eqb, eqb-true, false≢true, or_cases}
use Rattle.std.proofs.lemmas.List.{get_or_default}
use Rattle.std.proofs.lemmas.List.Folds.{list_any_at}
use Rattle.est_kernel.specs.Plain.{Program}
use Rattle.est_kernel.specs.Preorder.{statement_count}
use Rattle.est_kernel.specs.WellFormed.{IsKernel}
use Rattle.grc_graph.specs.Instances.{Instance, body_instances}
use Rattle.grc_graph.specs.Layers.{Layer, Resumed, Started, Liveness, layer_above, root_if, same_layer}
use Rattle.grc_graph.specs.Layouts.{is_among}
use Rattle.grc_graph.specs.Rows.{program_rows, row_at}
use Rattle.grc_graph.specs.Statements.{Entry, Body, Part, Branch, Then, Else, Suspended, Second, Looped, around}
use Rattle.grc_graph.proofs.Exports.{Entered, PartOf, program_placed, LiveAt, above_behind, above_within, row-around, same_layer-self, same_layer-true}
use Rattle.grc_share.specs.Renamings.{is_named}
use Rattle.grc_share.specs.SharedGraphs.{shared_instances}
use Rattle.grc_share.specs.SharedInstances.{body_sharing}
use Rattle.grc_share.specs.SharedWires.{first_root, shared_layer}
use Rattle.grc_share.proofs.Ranks.{rank, rank-low, rank-read}
use Rattle.grc_share.proofs.RowsLive.{program_gives}

abbrev Among : ℕ → List ℕ → Type 0
Among r rs = list_any (λ s. s == r) rs ≡ true

-- the first root with the key of one among them is there whatever follows
first-append : (c : ℕ → ℕ) (xs ys : List ℕ) (r : ℕ) → Among r xs → first_root c (xs ++ ys) r ≡ first_root c xs r
first-append c [] ys r h = absurd (false≢true h)
first-append c (x ∷ xs) ys r h = by (c x == c r) refl (first-append c xs ys r)
  where
    by : (b : Bool) → (c x == c r) ≡ b → (Among r xs → first_root c (xs ++ ys) r ≡ first_root c xs r)
        → cond b x (first_root c (xs ++ ys) r) ≡ cond b x (first_root c xs r)
    by true e rest = refl
    by false e rest =
        rest (⊎_elim (λ q. absurd (both_ways (c x == c r) e (eq-eqb (c x) (c r) (ap c (eqb-true x r q))))) (λ q. q)
        (or_cases (x == r) (list_any (λ s. s == r) xs) h))

-- a root is among the first of two lists, where it is not the one behind them
among-first : (xs : List ℕ) (b : Bool) (m r : ℕ) → r < m → Among r (xs ++ root_if b m) → Among r xs
among-first [] true m r l h =
    ⊎_elim (λ q. absurd (omega (arith, l, eqb-true m r q))) (λ q. q) (or_cases (m == r) false h)
among-first [] false m r l h = h
among-first (x ∷ xs) b m r l h = by (x == r) h (among-first xs b m r l)
  where
    by : (e : Bool) → (e || list_any (λ s. s == r) (xs ++ root_if b m)) ≡ true → (Among r (xs ++ root_if b m) → Among r xs)
        → (e || list_any (λ s. s == r) xs) ≡ true
    by true t rest = refl
    by false t rest = rest t

-- the roots of a statement are those of the statement around it, where these are before its own
abbrev Behind : (ℕ → ℕ) → (n : ℕ) → List ℕ → List ℕ → Type 0
Behind c n inner outer = (r : ℕ) → r ≤ n → Among r inner → first_root c inner r ≡ first_root c outer r

behind-same : (c : ℕ → ℕ) (n : ℕ) (inner outer : List ℕ) → inner ≡ outer → Behind c n inner outer
behind-same c n inner outer e r l h = ap (λ rs. first_root c rs r) e

behind-own : (c : ℕ → ℕ) (n m : ℕ) (b : Bool) (inner outer : List ℕ) → n < m → inner ≡ outer ++ root_if b m → Behind c n inner outer
behind-own c n m b inner outer lt e r l h =
    ap (λ rs. first_root c rs r) e
    ∙ first-append c outer (root_if b m) r (among-first outer b m r (omega arith) (subst (λ rs. Among r rs) e h))

behind-second : (c : ℕ → ℕ) (n m : ℕ) (a b : Bool) (inner outer : List ℕ) → n < m → inner ≡ cond a outer [] ++ root_if b m → Behind c n inner outer
behind-second c n m true b inner outer lt e r l h = behind-own c n m b inner outer lt e r l h
behind-second c n m false b inner outer lt e r l h =
    absurd (false≢true (among-first [] b m r (omega arith) (subst (λ rs. Among r rs) e h)))

module _ (p : Program) (kernel : IsKernel p.body) where
  part : (c : ℕ → ℕ) (m n k : ℕ) → k ≡ n → PartOf (program_rows p) m k
      → Behind c n (row_at (program_rows p) m).live.roots (row_at (program_rows p) n).live.roots
  part c m n k same e =
      subst (λ i. Behind c i (row_at (program_rows p) m).live.roots (row_at (program_rows p) i).live.roots) same
      (behind-same c k _ _ (ap (λ (a : Liveness). a.roots) e.live))

  entered-behind : (c : ℕ → ℕ) (m n : ℕ) (x : Entry) → Entered (program_rows p) m x → around x ≡ Some n
      → Behind c n (row_at (program_rows p) m).live.roots (row_at (program_rows p) n).live.roots
  entered-behind c m n Body e is = absurd (cc)
  entered-behind c m n (Part k) e is = let same : k ≡ n = cc in part c m n k same e
  entered-behind c m n (Branch k) e is = let same : k ≡ n = cc in part c m n k same e
  entered-behind c m n (Then k t) e is = let same : k ≡ n = cc in part c m n k same e.part
  entered-behind c m n (Else k t) e is = let same : k ≡ n = cc in part c m n k same e.part
  entered-behind c m n (Suspended k t) e is = let same : k ≡ n = cc in part c m n k same e.part
  entered-behind c m n (Second k) e is =
      let same : k ≡ n = cc in
      subst (λ i. Behind c i (row_at (program_rows p) m).live.roots (row_at (program_rows p) i).live.roots) same
      (behind-second c k m _ _ (row_at (program_rows p) m).live.roots (row_at (program_rows p) k).live.roots (omega (arith, e.before))
      (ap (λ (a : Liveness). a.roots) e.live))
  entered-behind c m n (Looped k) e is =
      let same : k ≡ n = cc in
      subst (λ i. Behind c i (row_at (program_rows p) m).live.roots (row_at (program_rows p) i).live.roots) same
      (behind-own c k m _ (row_at (program_rows p) m).live.roots (row_at (program_rows p) k).live.roots (omega (arith, e.number))
      (ap (λ (a : Liveness). a.roots) e.live))

  live-at : (n : ℕ) → n < statement_count p.body → (row_at (program_rows p) n).live ≡ (body_sharing p.body).live n
  live-at n l = program_gives p kernel n (omega arith) (omega (arith, l))

  root-of : (q r : ℕ) → Started q ≡ Started r → q ≡ r
  root-of q r e = cc

  -- the statement around one is named where the one is
  around-named : (m n : ℕ) (l : Layer) → LiveAt p m l → around (row_at (program_rows p) m).entry ≡ Some n
      → shared_layer (body_sharing p.body) m l ≡ l → shared_layer (body_sharing p.body) n (layer_above n l) ≡ layer_above n l
  around-named m n Resumed at is own = refl
  around-named m n (Started r) at is own =
      let K = body_sharing p.body in
      let up = row-around p n m (Started r) at is in
      ⊎_elim
      (λ lt. subst (λ j. shared_layer K n j ≡ j) (sym (above_behind n r lt)) refl)
      (λ le.
      let behind = entered-behind K.root m n (row_at (program_rows p) m).entry (program_placed p m at.within).entered is r le at.live in
      let first : first_root K.root (K.live n).roots r ≡ r =
      ap (λ (a : Liveness). first_root K.root a.roots r) (sym (live-at n up.within)) ∙ sym behind
      ∙ ap (λ (a : Liveness). first_root K.root a.roots r) (live-at m at.within) ∙ root-of _ r own in
      subst (λ j. shared_layer K n j ≡ j) (sym (above_within n r le)) (ap Started first))
      (cases_lt n r)

  -- what names its shared instance is among the shared ones
  pub among-shared : (n : ℕ) (l : Layer) → Contains (body_instances p.body) (record { path = n; layer = l })
      → shared_layer (body_sharing p.body) n l ≡ l → is_among (shared_instances p) n l ≡ true
  among-shared n l inside own =
      let P = is_named (body_sharing p.body) in
      let xs = body_instances p.body in
      let d : Instance = record { path = 0; layer = Resumed } in
      let here : get_or xs inside.0 d ≡ record { path = n; layer = l } = get_or_default xs inside.0 d _ inside.1 ∙ inside.2 in
      let passes : P (get_or xs inside.0 d) ≡ true = ap P here ∙ ap (λ j. same_layer j l) own ∙ same_layer-self l in
      let read = rank-read P xs inside.0 d d inside.1 passes ∙ here in
      list_any_at (λ (x : Instance). x.path == n && same_layer x.layer l) (shared_instances p) (rank P xs inside.0) d (rank-low P xs inside.0 d inside.1 passes)
      (ap (λ (x : Instance). x.path == n && same_layer x.layer l) read ∙ and_from (n == n) (same_layer l l) (eq-eqb n n refl) (same_layer-self l))

  -- with each shared instance that of the statement around, as it is seen from it
  pub shared-enclosed : (m n : ℕ) (l : Layer) → LiveAt p m l → is_named (body_sharing p.body) (record { path = m; layer = l }) ≡ true
      → around (row_at (program_rows p) m).entry ≡ Some n → is_among (shared_instances p) n (layer_above n l) ≡ true
  shared-enclosed m n l at named is =
      among-shared n (layer_above n l) (row-around p n m l at is).live (around-named m n l at is (same_layer-true _ l named))
