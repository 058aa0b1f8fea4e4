-- The pauses that a walk keeps with code 1 are a state again: they are well formed, and they are leaves.
use Rattle.std.proofs.Common.{◌≡◌, ℕ, ◌+◌, ◌<◌, ◌≤◌, ◌⊎◌, Bool, true, false, ◌&&◌, ◌||◌, ◌==◌, cond, max, List, [], ◌∷◌, ◌++◌, refl, sym, ap, ◌∙◌}
use Rattle.std.proofs.Common.{subst, inl, inr, ⊎_elim, arith}
use Rattle.std.specs.List.{list_any}
use Rattle.std.proofs.lemmas.List.Folds.{list_any-append}
use Rattle.std.proofs.lemmas.Bool.{or_cases, or_left, or_right, and_parts, eqb-true, eqb-false, eq-eqb, cond_both, false≢true, cases_Bool, leb-true, ltb-true}
use Rattle.std.proofs.lemmas.Bool.{and_from, and_right}
use Rattle.base_facts.proofs.Tests.{or-other}
use Rattle.est_kernel.specs.Terms.{Term, Nothing, Pause, Emit, Exit, Present, Suspend, Seq, Loop, Par, Trap, Local, Awake}
use Rattle.est_kernel.specs.Preorder.{statement_count}
use Rattle.est_kernel.specs.Steps.{trap_code}
use Rattle.est_kernel.specs.StaticCodes.{started_codes, resumed_codes, instant_loops, NoInstantLoop}
use Rattle.est_kernel.proofs.Exports.{trap_code-one}
use Rattle.grc_graph.specs.Layers.{Layer, Resumed, Started, can_pass}
use Rattle.grc_graph.specs.Residuals.{holds}
use Rattle.grc_graph.specs.Walk.{Walk, Values, truth, with_value, ended, then_walk, both_walks, started_walk, resumed_walk, selected_in}
use Rattle.grc_graph.specs.SelectionTrees.{resumes, second_resumes, leaf_paths}
use Rattle.grc_graph.specs.Selected.{HasExitCodes, IsSelected}
use Rattle.grc_solutions_laws.proofs.Residues.{no_loops-left, no_loops-right, loop_body, resumed_live}
use Rattle.grc_solutions_laws.proofs.Kept.{Same, first_same, second_same, only_same, holds_same, Keeps, second_none, first_none, both_first, both_second}
use Rattle.grc_solutions_laws.proofs.Kept.{selected_same}
use Rattle.grc_solutions_laws.proofs.Kept.{keeps_branch, started_keeps, resumed_keeps}
use Rattle.grc_solutions_laws.proofs.WalkCodes.{started_code, resumed_code}
use Rattle.grc_solutions_laws.proofs.Ways.{Way, goal, inside, way_held}

-- a well-formed selection depends on the pauses of the statement alone
pub selected_as : (S T : ℕ → Bool) (t : Term) (n : ℕ) → Same S T n (n + statement_count t) → IsSelected S t n → IsSelected T t n
selected_as S T (Present e p q) n s h =
    let m = n + 1 + statement_count p in
    let sp = first_same n (statement_count p) (statement_count q) s in
    let sq = second_same n (statement_count p) (statement_count q) s in
    let ep = holds_same S T p (n + 1) sp in
    let eq = holds_same S T q m sq in (
      sym (ap (λ b. b && holds S q m) ep ∙ ap (λ b. holds T p (n + 1) && b) eq) ∙ h.0,
      (λ c. selected_as S T p (n + 1) sp (h.1 (ep ∙ c))),
      (λ c. selected_as S T q m sq (h.2 (eq ∙ c))),
    )
selected_as S T (Suspend e p) n s h = selected_as S T p (n + 1) (only_same n (statement_count p) s) h
selected_as S T (Seq p q) n s h =
    let m = n + 1 + statement_count p in
    let sp = first_same n (statement_count p) (statement_count q) s in
    let sq = second_same n (statement_count p) (statement_count q) s in
    let ep = holds_same S T p (n + 1) sp in
    let eq = holds_same S T q m sq in (
      sym (ap (λ b. b && holds S q m) ep ∙ ap (λ b. holds T p (n + 1) && b) eq) ∙ h.0,
      (λ c. selected_as S T p (n + 1) sp (h.1 (ep ∙ c))),
      (λ c. let i = h.2 (eq ∙ c) in (i.0, selected_as S T q m sq i.1)),
    )
selected_as S T (Loop at p) n s h = selected_as S T p (n + 1) (only_same n (statement_count p) s) h
selected_as S T (Par p q) n s h =
    let m = n + 1 + statement_count p in
    let sp = first_same n (statement_count p) (statement_count q) s in
    let sq = second_same n (statement_count p) (statement_count q) s in
    let ep = holds_same S T p (n + 1) sp in
    let eq = holds_same S T q m sq in (
      ap (λ b. b || can_pass p) (sym ep) ∙ h.0,
      ap (λ b. b || can_pass q) (sym eq) ∙ h.1,
      (λ c. selected_as S T p (n + 1) sp (h.2 (ep ∙ c))),
      (λ c. selected_as S T q m sq (h.3 (eq ∙ c))),
    )
selected_as S T (Trap p) n s h = selected_as S T p (n + 1) (only_same n (statement_count p) s) h
selected_as S T (Local x p) n s h = selected_as S T p (n + 1) (only_same n (statement_count p) s) h
selected_as S T _ n s h = tt

flip_same : {S T : ℕ → Bool} {a b : ℕ} → Same S T a b → Same T S a b
flip_same s = record { at = λ m l u. sym (s.at m l u) }

-- a first part alone, and a second part alone
first_only : {w : Walk} (p q : Term) (n : ℕ) (T : ℕ → Bool) {P Q : Type 0} → Keeps w p (n + 1) →
    Same T w.kept n (n + (1 + statement_count p + statement_count q)) → P →
    ((holds T p (n + 1) && holds T q (n + 1 + statement_count p)) ≡ false) × (holds T p (n + 1) ≡ true → P) × (holds T q (n + 1 + statement_count p) ≡ true → Q)
first_only p q n T k s h =
    let none = second_none q n T k s in
    (and_right _ _ none, (λ c. h), (λ c. absurd (false≢true (sym none ∙ c))))

second_only : {w : Walk} (p q : Term) (n : ℕ) (T : ℕ → Bool) {P Q : Type 0} → Keeps w q (n + 1 + statement_count p) →
    Same T w.kept n (n + (1 + statement_count p + statement_count q)) → Q →
    ((holds T p (n + 1) && holds T q (n + 1 + statement_count p)) ≡ false) × (holds T p (n + 1) ≡ true → P) × (holds T q (n + 1 + statement_count p) ≡ true → Q)
second_only p q n T k s h =
    let none = first_none p n T k s in
    (ap (λ b. b && holds T q (n + 1 + statement_count p)) none, (λ c. absurd (false≢true (sym none ∙ c))), (λ c. h))

-- of a maximum that is 1 each part is 0 or 1
over_or_held : (p : Term) (c n : ℕ) (h : Bool) → c ≤ 1 → h ≡ (c == 1) → (c ≡ 0 → can_pass p ≡ true) → (h || can_pass p) ≡ true
over_or_held p c n h l e f =
    ⊎_elim
    (λ z. or_left _ _ (e ∙ z))
    (λ z. or_right h _ (f (let i = eqb-false c 1 z in omega arith)))
    (cases_Bool (c == 1))

pub started_selected : (Z : ℕ → Layer → Bool) (t : Term) (n : ℕ) (l : Layer) (v : Values) → NoInstantLoop t → HasExitCodes t →
    (started_walk Z t n l v).code ≡ 1 →
    (T : ℕ → Bool) → Same T (started_walk Z t n l v).kept n (n + statement_count t) → IsSelected T t n
started_selected Z (Present e p q) n l v nl k =
    let m = n + 1 + statement_count p in
    let np = no_loops-left (instant_loops p) (instant_loops q) nl in
    let nq = no_loops-right (instant_loops p) (instant_loops q) nl in
    cond_both (truth e v) (started_walk Z p (n + 1) l v) (started_walk Z q m l v)
    (λ w. w.code ≡ 1 → (T : ℕ → Bool) → Same T w.kept n (n + (1 + statement_count p + statement_count q)) → IsSelected T (Present e p q) n)
    (λ d c T s. first_only p q n T (started_keeps Z p (n + 1) l v k.0) s
    (started_selected Z p (n + 1) l v np k.0 c T (first_same n (statement_count p) (statement_count q) s)))
    (λ d c T s. second_only p q n T (started_keeps Z q m l v k.1) s
    (started_selected Z q m l v nq k.1 c T (second_same n (statement_count p) (statement_count q) s)))
started_selected Z (Suspend e p) n l v nl k = λ c T s. started_selected Z p (n + 1) l v nl k c T (only_same n (statement_count p) s)
started_selected Z (Seq p q) n l v nl k =
    let m = n + 1 + statement_count p in
    let np = no_loops-left (instant_loops p) (instant_loops q) nl in
    let nq = no_loops-right (instant_loops p) (instant_loops q) nl in
    let x = started_walk Z p (n + 1) l v in
    let y = started_walk Z q m l v in
    cond_both (x.code == 0) (record { signals = λ i. x.signals i || y.signals i; code = y.code; kept = y.kept }) x
    (λ w. w.code ≡ 1 → (T : ℕ → Bool) → Same T w.kept n (n + (1 + statement_count p + statement_count q)) → IsSelected T (Seq p q) n)
    (λ d c T s. second_only p q n T (started_keeps Z q m l v k.1) s (
      or_left _ _ (subst (λ j. started_codes p j ≡ true) (eqb-true x.code 0 d) (started_code Z p (n + 1) l v np k.0)),
      started_selected Z q m l v nq k.1 c T (second_same n (statement_count p) (statement_count q) s),
    ))
    (λ d c T s. first_only p q n T (started_keeps Z p (n + 1) l v k.0) s
    (started_selected Z p (n + 1) l v np k.0 c T (first_same n (statement_count p) (statement_count q) s)))
started_selected Z (Loop at p) n l v nl k = λ c T s.
    started_selected Z p (n + 1) l v (loop_body at p nl).1 k c T (only_same n (statement_count p) s)
started_selected Z (Par p q) n l v nl k = λ c T s.
    let m = n + 1 + statement_count p in
    let np = no_loops-left (instant_loops p) (instant_loops q) nl in
    let nq = no_loops-right (instant_loops p) (instant_loops q) nl in
    let x = started_walk Z p (n + 1) l v in
    let y = started_walk Z q m l v in
    let kx = started_keeps Z p (n + 1) l v k.0 in
    let ky = started_keeps Z q m l v k.1 in
    let one : (max x.code y.code == 1) ≡ true = eq-eqb (max x.code y.code) 1 c in
    let sp = both_first x p n T ky one s in
    let sq = both_second y q n T kx one s in
    let hp = kx.held T sp in
    let hq = ky.held T sq in (
      over_or_held p x.code n _ (omega arith) hp (λ z. or_left _ _ (subst (λ j. started_codes p j ≡ true) z (started_code Z p (n + 1) l v np k.0))),
      over_or_held q y.code n _ (omega arith) hq (λ z. or_left _ _ (subst (λ j. started_codes q j ≡ true) z (started_code Z q m l v nq k.1))),
      (λ h. started_selected Z p (n + 1) l v np k.0 (eqb-true x.code 1 (sym hp ∙ h)) T sp),
      (λ h. started_selected Z q m l v nq k.1 (eqb-true y.code 1 (sym hq ∙ h)) T sq),
    )
started_selected Z (Trap p) n l v nl k = λ c T s.
    let x = started_walk Z p (n + 1) l v in
    let one : (trap_code x.code == 1) ≡ true = eq-eqb _ 1 c in
    started_selected Z p (n + 1) l v nl k (trap_code-one x.code c) T
    (record { at = λ m a b. s.at m (omega arith) (omega arith) ∙ ap (λ i. i && x.kept m) one })
started_selected Z (Local x p) n l v nl k = λ c T s.
    started_selected Z p (n + 1) l (with_value v x (Z n l)) nl k c T (record { at = λ m a b. s.at m (omega arith) (omega arith) })
started_selected Z _ n l v nl k = λ c T s. tt

branch_over : (d : Bool) (p : Term) (x : Walk) → (d || can_pass p) ≡ true → (d ≡ true → resumed_codes p x.code ≡ true) → (cond d x (ended 0)).code ≡ 0 →
    can_pass p ≡ true
branch_over true p x o f z = or_right (started_codes p 0) _ (subst (λ j. resumed_codes p j ≡ true) z (f refl))
branch_over false p x o f z = o

branch_selected : (d : Bool) (x : Walk) (T : ℕ → Bool) {a b : ℕ} {P : Type 0} → (cond d x (ended 0)).code ≡ 1 → Same T (cond d x (ended 0)).kept a b →
    (d ≡ true → x.code ≡ 1 → Same T x.kept a b → P) → P
branch_selected true x T c s f = f refl c s
branch_selected false x T c s f = absurd (omega arith)

pub resumed_selected : (Z : ℕ → Layer → Bool) (S : ℕ → Bool) (t : Term) (n : ℕ) (v : Values) → NoInstantLoop t → HasExitCodes t → holds S t n ≡ true →
    IsSelected S t n → (resumed_walk Z S t n v).code ≡ 1 → (T : ℕ → Bool) → Same T (resumed_walk Z S t n v).kept n (n + statement_count t) → IsSelected T t n
resumed_selected Z S (Present e p q) n v nl k h i =
    let m = n + 1 + statement_count p in
    let np = no_loops-left (instant_loops p) (instant_loops q) nl in
    let nq = no_loops-right (instant_loops p) (instant_loops q) nl in
    cond_both (holds S p (n + 1)) (resumed_walk Z S p (n + 1) v) (resumed_walk Z S q m v)
    (λ w. w.code ≡ 1 → (T : ℕ → Bool) → Same T w.kept n (n + (1 + statement_count p + statement_count q)) → IsSelected T (Present e p q) n)
    (λ d c T s. first_only p q n T (resumed_keeps Z S p (n + 1) v k.0 d) s
    (resumed_selected Z S p (n + 1) v np k.0 d (i.1 d) c T (first_same n (statement_count p) (statement_count q) s)))
    (λ d c T s.
    let d2 = or-other _ _ d h in
    second_only p q n T (resumed_keeps Z S q m v k.1 d2) s (resumed_selected Z S q m v nq k.1 d2 (i.2 d2) c T
    (second_same n (statement_count p) (statement_count q) s)))
resumed_selected Z S (Suspend e p) n v nl k h i =
    cond_both (truth e v) (record { signals = λ t. false; code = 1; kept = selected_in S p (n + 1) }) (resumed_walk Z S p (n + 1) v)
    (λ w. w.code ≡ 1 → (T : ℕ → Bool) → Same T w.kept n (n + (1 + statement_count p)) → IsSelected T (Suspend e p) n)
    (λ d c T s. selected_as S T p (n + 1) (flip_same (selected_same S T p (n + 1) (only_same n (statement_count p) s))) i)
    (λ d c T s. resumed_selected Z S p (n + 1) v nl k h i c T (only_same n (statement_count p) s))
resumed_selected Z S (Seq p q) n v nl k h i =
    let m = n + 1 + statement_count p in
    let np = no_loops-left (instant_loops p) (instant_loops q) nl in
    let nq = no_loops-right (instant_loops p) (instant_loops q) nl in
    let x = resumed_walk Z S p (n + 1) v in
    let y = started_walk Z q m (Started m) v in
    cond_both (holds S p (n + 1)) (then_walk x y) (resumed_walk Z S q m v)
    (λ w. w.code ≡ 1 → (T : ℕ → Bool) → Same T w.kept n (n + (1 + statement_count p + statement_count q)) → IsSelected T (Seq p q) n)
    (λ d.
    cond_both (x.code == 0) (record { signals = λ j. x.signals j || y.signals j; code = y.code; kept = y.kept }) x
    (λ w. w.code ≡ 1 → (T : ℕ → Bool) → Same T w.kept n (n + (1 + statement_count p + statement_count q)) → IsSelected T (Seq p q) n)
    (λ z c T s. second_only p q n T (started_keeps Z q m (Started m) v k.1) s (
      or_right (started_codes p 0) _ (subst (λ j. resumed_codes p j ≡ true) (eqb-true x.code 0 z) (resumed_code Z S p (n + 1) v np k.0 d (i.1 d))),
      started_selected Z q m (Started m) v nq k.1 c T (second_same n (statement_count p) (statement_count q) s),
    ))
    (λ z c T s. first_only p q n T (resumed_keeps Z S p (n + 1) v k.0 d) s
    (resumed_selected Z S p (n + 1) v np k.0 d (i.1 d) c T (first_same n (statement_count p) (statement_count q) s))))
    (λ d c T s.
    let d2 = or-other _ _ d h in
    let j = i.2 d2 in
    second_only p q n T (resumed_keeps Z S q m v k.1 d2) s (
      j.0,
      resumed_selected Z S q m v nq k.1 d2 j.1 c T
          (second_same n (statement_count p) (statement_count q) s),
    ))
resumed_selected Z S (Loop at p) n v nl k h i =
    let x = resumed_walk Z S p (n + 1) v in
    let y = started_walk Z p (n + 1) (Started (n + 1)) v in
    let np = (loop_body at p nl).1 in
    cond_both (x.code == 0) (record { signals = λ j. x.signals j || y.signals j; code = y.code; kept = y.kept }) x
    (λ w. w.code ≡ 1 → (T : ℕ → Bool) → Same T w.kept n (n + (1 + statement_count p)) → IsSelected T (Loop at p) n)
    (λ z c T s. started_selected Z p (n + 1) (Started (n + 1)) v np k c T (only_same n (statement_count p) s))
    (λ z c T s. resumed_selected Z S p (n + 1) v np k h i c T (only_same n (statement_count p) s))
resumed_selected Z S (Par p q) n v nl k h i = λ c T s.
    let m = n + 1 + statement_count p in
    let np = no_loops-left (instant_loops p) (instant_loops q) nl in
    let nq = no_loops-right (instant_loops p) (instant_loops q) nl in
    let x = cond (holds S p (n + 1)) (resumed_walk Z S p (n + 1) v) (ended 0) in
    let y = cond (holds S q m) (resumed_walk Z S q m v) (ended 0) in
    let kx = keeps_branch (holds S p (n + 1)) (λ d. resumed_keeps Z S p (n + 1) v k.0 d) in
    let ky = keeps_branch (holds S q m) (λ d. resumed_keeps Z S q m v k.1 d) in
    let one : (max x.code y.code == 1) ≡ true = eq-eqb (max x.code y.code) 1 c in
    let sp = both_first x p n T ky one s in
    let sq = both_second y q n T kx one s in
    let hp = kx.held T sp in
    let hq = ky.held T sq in (
      over_or_held p x.code n _ (omega arith) hp (λ z. branch_over (holds S p (n + 1)) p (resumed_walk Z S p (n + 1) v) i.0
          (λ d. resumed_code Z S p (n + 1) v np k.0 d (i.2 d)) z),
      over_or_held q y.code n _ (omega arith) hq (λ z. branch_over (holds S q m) q (resumed_walk Z S q m v) i.1
          (λ d. resumed_code Z S q m v nq k.1 d (i.3 d)) z),
      (λ e. branch_selected (holds S p (n + 1)) (resumed_walk Z S p (n + 1) v) T (eqb-true x.code 1 (sym hp ∙ e)) sp
          (λ d c2 s2. resumed_selected Z S p (n + 1) v np k.0 d (i.2 d) c2 T s2)),
      (λ e. branch_selected (holds S q m) (resumed_walk Z S q m v) T (eqb-true y.code 1 (sym hq ∙ e)) sq
          (λ d c2 s2. resumed_selected Z S q m v nq k.1 d (i.3 d) c2 T s2)),
    )
resumed_selected Z S (Trap p) n v nl k h i = λ c T s.
    let x = resumed_walk Z S p (n + 1) v in
    let one : (trap_code x.code == 1) ≡ true = eq-eqb _ 1 c in
    resumed_selected Z S p (n + 1) v nl k h i (trap_code-one x.code c) T
    (record { at = λ m a b. s.at m (omega arith) (omega arith) ∙ ap (λ j. j && x.kept m) one })
resumed_selected Z S (Local x p) n v nl k h i = λ c T s.
    resumed_selected Z S p (n + 1) (with_value v x (Z n Resumed)) nl k h i c T (record { at = λ m a b. s.at m (omega arith) (omega arith) })
resumed_selected Z S _ n v nl k h i = λ c T s. tt

-- the pauses among selected numbers
pub record Pauses (S : ℕ → Bool) (t : Term) (n : ℕ) : Type 0 where
  pub each : (m : ℕ) → S m ≡ true → n ≤ m → m < n + statement_count t → (h : Way t) × (goal t n h ≡ m)

abbrev pub IsWay : Term → ℕ → ℕ → Type 0
IsWay t n m = (h : Way t) × (goal t n h ≡ m)

pauses_first : (S : ℕ → Bool) (p q : Term) (n : ℕ) → ((m : ℕ) → S m ≡ true → n ≤ m → m < n + (1 + statement_count p + statement_count q) → IsWay (Seq p q) n m)
    → Pauses S p (n + 1)
pauses_first S p q n f = record { each = λ m e l u. go m (f m e (omega arith) (omega arith)) l u }
  where
    go : (m : ℕ) → IsWay (Seq p q) n m → n + 1 ≤ m → m < n + 1 + statement_count p → IsWay p (n + 1) m
    go m w l u = at m w.0 w.1 l u
      where
        at : (m : ℕ) (h : Way p ⊎ Way q) → goal (Seq p q) n h ≡ m → n + 1 ≤ m → m < n + 1 + statement_count p → IsWay p (n + 1) m
        at m (inl x) e l u = (x, e)
        at m (inr y) e l u = let i = inside q (n + 1 + statement_count p) y in absurd (omega (arith, i.0))

pauses_second : (S : ℕ → Bool) (p q : Term) (n : ℕ) → ((m : ℕ) → S m ≡ true → n ≤ m → m < n + (1 + statement_count p + statement_count q) → IsWay (Seq p q) n m)
    → Pauses S q (n + 1 + statement_count p)
pauses_second S p q n f = record { each = λ m e l u. go m (f m e (omega arith) (omega arith)) l u }
  where
    go : (m : ℕ) → IsWay (Seq p q) n m → n + 1 + statement_count p ≤ m → m < n + 1 + statement_count p + statement_count q →
        IsWay q (n + 1 + statement_count p) m
    go m w l u = at m w.0 w.1 l u
      where
        at : (m : ℕ) (h : Way p ⊎ Way q) → goal (Seq p q) n h ≡ m → n + 1 + statement_count p ≤ m → m < n + 1 + statement_count p + statement_count q →
            IsWay q (n + 1 + statement_count p) m
        at m (inl x) e l u = let i = inside p (n + 1) x in absurd (omega (arith, i.1))
        at m (inr y) e l u = (y, e)

abbrev pub AllWays : (ℕ → Bool) → Term → ℕ → Type 0
AllWays K t n = (m : ℕ) → K m ≡ true → IsWay t n m

cond_ways : (d : Bool) (x y : Walk) (t : Term) (n : ℕ) → AllWays x.kept t n → AllWays y.kept t n → AllWays (cond d x y).kept t n
cond_ways true x y t n f g = f
cond_ways false x y t n f g = g

then_ways : (x y : Walk) (t : Term) (n : ℕ) → AllWays x.kept t n → AllWays y.kept t n → AllWays (then_walk x y).kept t n
then_ways x y t n f g =
    cond_both (x.code == 0) (record { signals = λ i. x.signals i || y.signals i; code = y.code; kept = y.kept }) x (λ w. AllWays w.kept t n) (λ e. g) (λ e. f)

both_ways : (x y : Walk) (t : Term) (n : ℕ) → AllWays x.kept t n → AllWays y.kept t n → AllWays (both_walks x y).kept t n
both_ways x y t n f g m e =
    ⊎_elim (f m) (g m) (or_cases (x.kept m) (y.kept m) (and_parts (max x.code y.code == 1) _ e).1)

by_first : (p q : Term) (n m : ℕ) → IsWay p (n + 1) m → IsWay (Seq p q) n m
by_first p q n m w = (inl w.0, w.1)

by_second : (p q : Term) (n m : ℕ) → IsWay q (n + 1 + statement_count p) m → IsWay (Seq p q) n m
by_second p q n m w = (inr w.0, w.1)

pub started_ways : (Z : ℕ → Layer → Bool) (t : Term) (n : ℕ) (l : Layer) (v : Values) → HasExitCodes t → AllWays (started_walk Z t n l v).kept t n
started_ways Z Pause n l v k = λ m e. (tt, sym (eqb-true m n e))
started_ways Z (Present c p q) n l v k =
    cond_ways (truth c v) _ _ (Present c p q) n
    (λ m e. by_first p q n m (started_ways Z p (n + 1) l v k.0 m e)) (λ m e. by_second p q n m (started_ways Z q (n + 1 + statement_count p) l v k.1 m e))
started_ways Z (Suspend c p) n l v k = started_ways Z p (n + 1) l v k
started_ways Z (Seq p q) n l v k =
    then_ways (started_walk Z p (n + 1) l v) (started_walk Z q (n + 1 + statement_count p) l v) (Seq p q) n
    (λ m e. by_first p q n m (started_ways Z p (n + 1) l v k.0 m e)) (λ m e. by_second p q n m (started_ways Z q (n + 1 + statement_count p) l v k.1 m e))
started_ways Z (Loop at p) n l v k = started_ways Z p (n + 1) l v k
started_ways Z (Par p q) n l v k =
    both_ways (started_walk Z p (n + 1) l v) (started_walk Z q (n + 1 + statement_count p) l v) (Par p q) n
    (λ m e. by_first p q n m (started_ways Z p (n + 1) l v k.0 m e)) (λ m e. by_second p q n m (started_ways Z q (n + 1 + statement_count p) l v k.1 m e))
started_ways Z (Trap p) n l v k = λ m e. started_ways Z p (n + 1) l v k m (and_parts _ _ e).1
started_ways Z (Local x p) n l v k = started_ways Z p (n + 1) l (with_value v x (Z n l)) k
started_ways Z (Awake c p) n l v k = absurd k
started_ways Z _ n l v k = λ m e. absurd (false≢true e)

ended_ways : (c : ℕ) (t : Term) (n : ℕ) → AllWays (ended c).kept t n
ended_ways c t n m e = absurd (false≢true e)

pauses_only : (S : ℕ → Bool) (t p : Term) (n : ℕ) → statement_count t ≡ 1 + statement_count p → ((m : ℕ) → IsWay t n m → IsWay p (n + 1) m) → Pauses S t n →
    Pauses S p (n + 1)
pauses_only S t p n c f h = record { each = λ m e l u. f m (h.each m e (omega arith) (omega arith)) }

pub resumed_ways : (Z : ℕ → Layer → Bool) (S : ℕ → Bool) (t : Term) (n : ℕ) (v : Values) → HasExitCodes t → Pauses S t n →
    AllWays (resumed_walk Z S t n v).kept t n
resumed_ways Z S (Present c p q) n v k h =
    cond_ways (holds S p (n + 1)) _ _ (Present c p q) n
    (λ m e. by_first p q n m (resumed_ways Z S p (n + 1) v k.0 (pauses_first S p q n h.each) m e))
    (λ m e. by_second p q n m (resumed_ways Z S q (n + 1 + statement_count p) v k.1 (pauses_second S p q n h.each) m e))
resumed_ways Z S (Suspend c p) n v k h =
    let hp = pauses_only S (Suspend c p) p n refl (λ m w. w) h in
    cond_ways (truth c v) (record { signals = λ t. false; code = 1; kept = selected_in S p (n + 1) }) (resumed_walk Z S p (n + 1) v) (Suspend c p) n
    (λ m e.
    let a = and_parts (S m) _ e in
    let b = and_parts _ _ a.1 in
    hp.each m a.0 (leb-true (n + 1) m b.0) (ltb-true m (n + 1 + statement_count p) b.1))
    (resumed_ways Z S p (n + 1) v k hp)
resumed_ways Z S (Seq p q) n v k h =
    let m2 = n + 1 + statement_count p in
    cond_ways (holds S p (n + 1)) (then_walk (resumed_walk Z S p (n + 1) v) (started_walk Z q m2 (Started m2) v)) (resumed_walk Z S q m2 v) (Seq p q) n
    (then_ways (resumed_walk Z S p (n + 1) v) (started_walk Z q m2 (Started m2) v) (Seq p q) n
    (λ m e. by_first p q n m (resumed_ways Z S p (n + 1) v k.0 (pauses_first S p q n h.each) m e))
    (λ m e. by_second p q n m (started_ways Z q m2 (Started m2) v k.1 m e)))
    (λ m e. by_second p q n m (resumed_ways Z S q m2 v k.1 (pauses_second S p q n h.each) m e))
resumed_ways Z S (Loop at p) n v k h =
    then_ways (resumed_walk Z S p (n + 1) v) (started_walk Z p (n + 1) (Started (n + 1)) v) (Loop at p) n
    (resumed_ways Z S p (n + 1) v k (pauses_only S (Loop at p) p n refl (λ m w. w) h)) (started_ways Z p (n + 1) (Started (n + 1)) v k)
resumed_ways Z S (Par p q) n v k h =
    let m2 = n + 1 + statement_count p in
    both_ways (cond (holds S p (n + 1)) (resumed_walk Z S p (n + 1) v) (ended 0)) (cond (holds S q m2) (resumed_walk Z S q m2 v) (ended 0)) (Par p q) n
    (cond_ways (holds S p (n + 1)) (resumed_walk Z S p (n + 1) v) (ended 0) (Par p q) n
    (λ m e. by_first p q n m (resumed_ways Z S p (n + 1) v k.0 (pauses_first S p q n h.each) m e)) (ended_ways 0 (Par p q) n))
    (cond_ways (holds S q m2) (resumed_walk Z S q m2 v) (ended 0) (Par p q) n
    (λ m e. by_second p q n m (resumed_ways Z S q m2 v k.1 (pauses_second S p q n h.each) m e)) (ended_ways 0 (Par p q) n))
resumed_ways Z S (Trap p) n v k h = λ m e. resumed_ways Z S p (n + 1) v k (pauses_only S (Trap p) p n refl (λ i w. w) h) m (and_parts _ _ e).1
resumed_ways Z S (Local x p) n v k h = resumed_ways Z S p (n + 1) (with_value v x (Z n Resumed)) k (pauses_only S (Local x p) p n refl (λ i w. w) h)
resumed_ways Z S (Awake c p) n v k h = absurd k
resumed_ways Z S t n v k h = ended_ways 0 t n

-- a leaf is the pause at the end of a way
abbrev pub among : ℕ → List ℕ → Bool
among m ms = list_any (λ x. m == x) ms

leaves_if : (b : Bool) (m : ℕ) (xs : List ℕ) → among m (cond b xs []) ≡ true → among m xs ≡ true
leaves_if true m xs e = e
leaves_if false m xs e = absurd (false≢true e)

among_cases : (m : ℕ) (xs ys : List ℕ) → among m (xs ++ ys) ≡ true → (among m xs ≡ true) ⊎ (among m ys ≡ true)
among_cases m xs ys e = or_cases (among m xs) (among m ys) (sym (list_any-append (λ x. m == x) xs ys) ∙ e)

pub leaf_way : (b : Bool) (t : Term) (n m : ℕ) → among m (leaf_paths b t n) ≡ true → IsWay t n m
leaf_way b Pause n m e =
    ⊎_elim (λ i. (tt, sym (eqb-true m n i))) (λ i. absurd (false≢true i)) (or_cases (m == n) false (leaves_if b m (n ∷ []) e))
leaf_way b (Present c p q) n m e =
    ⊎_elim (λ i. by_first p q n m (leaf_way (resumes p) p (n + 1) m i)) (λ i. by_second p q n m (leaf_way (resumes q) q (n + 1 + statement_count p) m i))
    (among_cases m (leaf_paths (resumes p) p (n + 1)) _ (leaves_if b m _ e))
leaf_way b (Suspend c p) n m e = leaf_way (resumes p) p (n + 1) m (leaves_if b m _ e)
leaf_way b (Seq p q) n m e =
    ⊎_elim (λ i. by_first p q n m (leaf_way (resumes p) p (n + 1) m i))
    (λ i. by_second p q n m (leaf_way (second_resumes p q) q (n + 1 + statement_count p) m i))
    (among_cases m (leaf_paths (resumes p) p (n + 1)) _ (leaves_if b m _ e))
leaf_way b (Loop at p) n m e = leaf_way (resumes p) p (n + 1) m (leaves_if b m _ e)
leaf_way b (Par p q) n m e =
    ⊎_elim (λ i. by_first p q n m (leaf_way (resumes p) p (n + 1) m i)) (λ i. by_second p q n m (leaf_way (resumes q) q (n + 1 + statement_count p) m i))
    (among_cases m (leaf_paths (resumes p) p (n + 1)) _ (leaves_if b m _ e))
leaf_way b (Trap p) n m e = leaf_way (resumes p) p (n + 1) m (leaves_if b m _ e)
leaf_way b (Local x p) n m e = leaf_way (resumes p) p (n + 1) m (leaves_if b m _ e)
leaf_way b _ n m e = absurd (false≢true e)

among_first : (m : ℕ) (xs ys : List ℕ) → among m xs ≡ true → among m (xs ++ ys) ≡ true
among_first m xs ys e = list_any-append (λ x. m == x) xs ys ∙ or_left _ _ e

among_second : (m : ℕ) (xs ys : List ℕ) → among m ys ≡ true → among m (xs ++ ys) ≡ true
among_second m xs ys e = list_any-append (λ x. m == x) xs ys ∙ or_right (among m xs) _ e

pub live_leaf : (b : Bool) (t : Term) (n m : ℕ) → b ≡ true → among m (leaf_paths true t n) ≡ true → among m (leaf_paths b t n) ≡ true
live_leaf b t n m e h = subst (λ c. among m (leaf_paths c t n) ≡ true) (sym e) h

-- a selected pause of a well-formed selection is a leaf
pub way_leaf : (S : ℕ → Bool) (t : Term) (n : ℕ) (h : Way t) → NoInstantLoop t → HasExitCodes t → IsSelected S t n → S (goal t n h) ≡ true →
    among (goal t n h) (leaf_paths true t n) ≡ true
way_leaf S Nothing n h nl k i e = absurd h
way_leaf S Pause n h nl k i e = or_left _ _ (eq-eqb n n refl)
way_leaf S (Emit x) n h nl k i e = absurd h
way_leaf S (Exit x) n h nl k i e = absurd h
way_leaf S (Present c p q) n (inl x) nl k i e =
    let np = no_loops-left (instant_loops p) (instant_loops q) nl in
    let y = way_held S p (n + 1) x e in
    among_first _ (leaf_paths (resumes p) p (n + 1)) _ (live_leaf (resumes p) p (n + 1) _ (resumed_live S p (n + 1) np k.0 y (i.1 y))
    (way_leaf S p (n + 1) x np k.0 (i.1 y) e))
way_leaf S (Present c p q) n (inr x) nl k i e =
    let m = n + 1 + statement_count p in
    let nq = no_loops-right (instant_loops p) (instant_loops q) nl in
    let y = way_held S q m x e in
    among_second _ (leaf_paths (resumes p) p (n + 1)) _ (live_leaf (resumes q) q m _ (resumed_live S q m nq k.1 y (i.2 y)) (way_leaf S q m x nq k.1 (i.2 y) e))
way_leaf S (Suspend c p) n h nl k i e =
    let y = way_held S p (n + 1) h e in live_leaf (resumes p) p (n + 1) _ (resumed_live S p (n + 1) nl k y i) (way_leaf S p (n + 1) h nl k i e)
way_leaf S (Seq p q) n (inl x) nl k i e =
    let np = no_loops-left (instant_loops p) (instant_loops q) nl in
    let y = way_held S p (n + 1) x e in
    among_first _ (leaf_paths (resumes p) p (n + 1)) _ (live_leaf (resumes p) p (n + 1) _ (resumed_live S p (n + 1) np k.0 y (i.1 y))
    (way_leaf S p (n + 1) x np k.0 (i.1 y) e))
way_leaf S (Seq p q) n (inr x) nl k i e =
    let m = n + 1 + statement_count p in
    let nq = no_loops-right (instant_loops p) (instant_loops q) nl in
    let y = way_held S q m x e in
    let j = i.2 y in
    among_second _ (leaf_paths (resumes p) p (n + 1)) _ (live_leaf (second_resumes p q) q m _ (and_from _ _ j.0 (resumed_live S q m nq k.1 y j.1))
    (way_leaf S q m x nq k.1 j.1 e))
way_leaf S (Loop at p) n h nl k i e =
    let np = (loop_body at p nl).1 in
    let y = way_held S p (n + 1) h e in live_leaf (resumes p) p (n + 1) _ (resumed_live S p (n + 1) np k y i) (way_leaf S p (n + 1) h np k i e)
way_leaf S (Par p q) n (inl x) nl k i e =
    let np = no_loops-left (instant_loops p) (instant_loops q) nl in
    let y = way_held S p (n + 1) x e in
    among_first _ (leaf_paths (resumes p) p (n + 1)) _ (live_leaf (resumes p) p (n + 1) _ (resumed_live S p (n + 1) np k.0 y (i.2 y))
    (way_leaf S p (n + 1) x np k.0 (i.2 y) e))
way_leaf S (Par p q) n (inr x) nl k i e =
    let m = n + 1 + statement_count p in
    let nq = no_loops-right (instant_loops p) (instant_loops q) nl in
    let y = way_held S q m x e in
    among_second _ (leaf_paths (resumes p) p (n + 1)) _ (live_leaf (resumes q) q m _ (resumed_live S q m nq k.1 y (i.3 y)) (way_leaf S q m x nq k.1 (i.3 y) e))
way_leaf S (Trap p) n h nl k i e =
    let y = way_held S p (n + 1) h e in live_leaf (resumes p) p (n + 1) _ (resumed_live S p (n + 1) nl k y i) (way_leaf S p (n + 1) h nl k i e)
way_leaf S (Local x p) n h nl k i e =
    let y = way_held S p (n + 1) h e in live_leaf (resumes p) p (n + 1) _ (resumed_live S p (n + 1) nl k y i) (way_leaf S p (n + 1) h nl k i e)
way_leaf S (Awake c p) n h nl k i e = absurd h
