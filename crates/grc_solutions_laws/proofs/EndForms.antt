-- What the formulas of `end k` mean, where the parts end as their walks do: one lemma per form.
use Rattle.std.proofs.Common.{◌≡◌, ℕ, zero, suc, ◌≤◌, Bool, true, false, not, ◌&&◌, ◌||◌, ◌==◌, cond, max, List, [], ◌∷◌, ◌++◌, refl, sym, ap, ◌∙◌, subst, inl}
use Rattle.std.proofs.Common.{inr, ◌⊎◌, ⊎_elim, arith}
use Rattle.std.specs.List.{list_any}
use Rattle.std.proofs.lemmas.List.Folds.{list_any-append}
use Rattle.std.proofs.lemmas.Bool.{and_from, or_cases, or_left, or_right, and_parts, eqb-true, eq-eqb, false≢true, cases_Bool, cases_lt}
use Rattle.base_facts.proofs.Tests.{or-equal, or-false, same-tests}
use Rattle.base_types.specs.Codes.{upto}
use Rattle.est_kernel.specs.Terms.{Expression, Tick, Sig, Not, And, Or, Term}
use Rattle.est_kernel.specs.Steps.{trap_code}
use Rattle.est_kernel.specs.StaticCodes.{has_code}
use Rattle.est_kernel.proofs.Exports.{upto-in, upto-parts}
use Rattle.grc_graph.specs.Layers.{Layer, Resumed}
use Rattle.grc_graph.specs.Scopes.{Binding, Entering, Scope}
use Rattle.grc_graph.specs.Wires.{Go, End}
use Rattle.grc_graph.specs.Formulas.{Formula, Conjunction, Selected, Upto, Value, any_of, meaning}
use Rattle.grc_graph.specs.Spots.{status_formula, test_formula}
use Rattle.grc_graph.specs.Equations.{part_end, trapped_ends, started_parallel, branch_over, branch_upto, branch_end, resumed_parallel}
use Rattle.grc_graph.specs.Walk.{Walk, Values, State, truth, ended}
use Rattle.grc_graph.specs.Readings.{Valuation, seen_value, boolean_interpretation}

-- a value, from what follows if it is true and from when it is
pub ends_by : (A X b : Bool) (k c : ℕ) → (X ≡ true → (b ≡ true) × (k ≡ c)) → (b ≡ true → k ≡ c → (A ≡ true) × (X ≡ true)) → (A && X) ≡ (b && (k == c))
ends_by A X b k c f g =
    same-tests (A && X) (b && (k == c))
    (λ h. let i = f (and_parts A X h).1 in and_from _ _ i.0 (eq-eqb k c i.1))
    (λ h. let i = and_parts b (k == c) h in let j = g i.0 (eqb-true k c i.1) in and_from _ _ j.0 j.1)

module _ (B : Scope) (body : Term) (q : State) (given : Values) (V : Valuation) where
  abbrev pub val : Formula → Bool
  val a = meaning (boolean_interpretation B body q given V V) a

  pub any_meaning : (fs : List Formula) → val (any_of fs) ≡ list_any val fs
  any_meaning [] = refl
  any_meaning (a ∷ []) = sym (or-false (val a))
  any_meaning (a ∷ (b ∷ fs)) = ap (λ x. val a || x) (any_meaning (b ∷ fs))

  pub part_meaning : (A : ℕ → Bool) (c : ℕ) (l : Layer) (k : ℕ) → list_any val (part_end A c l k) ≡ (A k && V (End c l k))
  part_meaning A c l k = go (A k)
    where
      go : (d : Bool) → list_any val (cond d (Value (End c l k) ∷ []) []) ≡ (d && V (End c l k))
      go true = or-false (V (End c l k))
      go false = refl

  status_meaning : (b : Binding) (s : ℕ) (l : Layer) → val (status_formula b s l) ≡ seen_value given V b s l
  status_meaning Entering s l = refl
  status_meaning _ s l = refl

  -- a test means its truth under the values that the place sees
  pub test_meaning : (C : Scope) (e : Expression) (l : Layer) (v : Values) → ((s : ℕ) → v s ≡ seen_value given V (C s) s l) →
      val (test_formula C e l) ≡ truth e v
  test_meaning C Tick l v h = refl
  test_meaning C (Sig s) l v h = status_meaning (C s) s l ∙ sym (h s)
  test_meaning C (Not a) l v h = ap not (test_meaning C a l v h)
  test_meaning C (And a b) l v h =
      ap (λ x. x && val (test_formula C b l)) (test_meaning C a l v h) ∙ ap (λ x. truth a v && x) (test_meaning C b l v h)
  test_meaning C (Or a b) l v h =
      ap (λ x. x || val (test_formula C b l)) (test_meaning C a l v h) ∙ ap (λ x. truth a v || x) (test_meaning C b l v h)

  -- a part at c that is reached where g holds ends with the code of its walk
  abbrev pub Ends : ℕ → Layer → Bool → ℕ → Type 0
  Ends c l g code = (k : ℕ) → V (End c l k) ≡ (g && k == code)

  says : (A : ℕ → Bool) (c : ℕ) (l : Layer) (g : Bool) (code k : ℕ) → (A k ≡ true → V (End c l k) ≡ (g && k == code)) → list_any val (part_end A c l k) ≡ true →
      (A k ≡ true) × (g ≡ true) × (k ≡ code)
  says A c l g code k e h =
      let i = and_parts (A k) (V (End c l k)) (sym (part_meaning A c l k) ∙ h) in
      let j = and_parts g (k == code) (sym (e i.0) ∙ i.1) in
      (i.0, j.0, eqb-true k code j.1)

  is_end : (A : ℕ → Bool) (c : ℕ) (l : Layer) (g : Bool) (code k : ℕ) → (A k ≡ true → V (End c l k) ≡ (g && k == code)) → A k ≡ true → g ≡ true → k ≡ code →
      list_any val (part_end A c l k) ≡ true
  is_end A c l g code k e a h z = part_meaning A c l k ∙ and_from _ _ a (e a ∙ and_from _ _ h (eq-eqb k code z))

  -- one part with all its codes
  pub only_ends_live : (A : ℕ → Bool) (c : ℕ) (l : Layer) (g : Bool) (code : ℕ) → ((k : ℕ) → A k ≡ true → V (End c l k) ≡ (g && k == code)) →
      (g ≡ true → A code ≡ true) → (k : ℕ) → (A k && val (any_of (part_end A c l k))) ≡ (g && k == code)
  only_ends_live A c l g code e a k =
      ends_by (A k) _ g k code
      (λ h. let i = says A c l g code k (e k) (sym (any_meaning (part_end A c l k)) ∙ h) in (i.1, i.2))
      (λ h z.
      let i : A k ≡ true = subst (λ j. A j ≡ true) (sym z) (a h) in
      (i, any_meaning (part_end A c l k) ∙ is_end A c l g code k (e k) i h z))

  pub only_ends : (A : ℕ → Bool) (c : ℕ) (l : Layer) (g : Bool) (code : ℕ) → Ends c l g code → (g ≡ true → A code ≡ true) → (k : ℕ) →
      (A k && val (any_of (part_end A c l k))) ≡ (g && k == code)
  only_ends A c l g code e a k = only_ends_live A c l g code (λ j z. e j) a k

  two_any : (xs ys : List Formula) → val (any_of (xs ++ ys)) ≡ (list_any val xs || list_any val ys)
  two_any xs ys = any_meaning (xs ++ ys) ∙ list_any-append val xs ys

  -- a choice of two parts, of which one is reached
  pub choice_ends : (A C W : ℕ → Bool) (c d : ℕ) (l j : Layer) (g h b : Bool) (x y code : ℕ) → ((k : ℕ) → A k ≡ true → V (End c l k) ≡ (g && k == x)) →
      ((k : ℕ) → C k ≡ true → V (End d j k) ≡ (h && k == y)) → (g ≡ true → (k : ℕ) → A k ≡ true → k ≡ x → (b ≡ true) × (code ≡ x)) →
      (h ≡ true → (b ≡ true) × (code ≡ y)) → (b ≡ true → W code ≡ true) →
      (b ≡ true → ((g ≡ true) × (code ≡ x) × (A x ≡ true)) ⊎ ((h ≡ true) × (code ≡ y) × (C y ≡ true))) → (k : ℕ) →
      (W k && val (any_of (part_end A c l k ++ part_end C d j k))) ≡ (b && k == code)
  choice_ends A C W c d l j g h b x y code e f p r a o k =
      ends_by (W k) _ b k code
      (λ i.
      ⊎_elim
      (λ u. let s = says A c l g x k (e k) u in let t = p s.1 k s.0 s.2 in (t.0, s.2 ∙ sym t.1))
      (λ u. let s = says C d j h y k (f k) u in let t = r s.1 in (t.0, s.2 ∙ sym t.1))
      (or_cases (list_any val (part_end A c l k)) _ (sym (two_any (part_end A c l k) (part_end C d j k)) ∙ i)))
      (λ i z. (
        subst (λ m. W m ≡ true) (sym z) (a i),
        two_any (part_end A c l k) (part_end C d j k)
            ∙ ⊎_elim
            (λ u. or_left _ _ (is_end A c l g x k (e k) (subst (λ m. A m ≡ true) (sym (z ∙ u.1)) u.2) u.0 (z ∙ u.1)))
            (λ u. or_right _ _ (is_end C d j h y k (f k) (subst (λ m. C m ≡ true) (sym (z ∙ u.1)) u.2) u.0 (z ∙ u.1)))
            (o i),
      ))

  -- a choice of three
  pub three_ends : (A C D W : ℕ → Bool) (c d e : ℕ) (l j i : Layer) (g h u b : Bool) (x y z code : ℕ) → ((k : ℕ) → A k ≡ true → V (End c l k) ≡ (g && k == x)) →
      ((k : ℕ) → C k ≡ true → V (End d j k) ≡ (h && k == y)) → ((k : ℕ) → D k ≡ true → V (End e i k) ≡ (u && k == z)) →
      (g ≡ true → (k : ℕ) → A k ≡ true → k ≡ x → (b ≡ true) × (code ≡ x)) → (h ≡ true → (b ≡ true) × (code ≡ y)) → (u ≡ true → (b ≡ true) × (code ≡ z)) →
      (b ≡ true → W code ≡ true) → (b ≡ true → ((g ≡ true) × (code ≡ x) × (A x ≡ true))
      ⊎ (((h ≡ true) × (code ≡ y) × (C y ≡ true)) ⊎ ((u ≡ true) × (code ≡ z) × (D z ≡ true)))) → (k : ℕ) →
      (W k && val (any_of (part_end A c l k ++ (part_end C d j k ++ part_end D e i k)))) ≡ (b && k == code)
  three_ends A C D W c d e l j i g h u b x y z code ea ec ed p r s a o k =
      let xs = part_end A c l k in
      let ys = part_end C d j k in
      let zs = part_end D e i k in
      let all : val (any_of (xs ++ (ys ++ zs))) ≡ (list_any val xs || (list_any val ys || list_any val zs)) =
      two_any xs (ys ++ zs) ∙ ap (λ m. list_any val xs || m) (list_any-append val ys zs) in
      ends_by (W k) _ b k code
      (λ m.
      ⊎_elim
      (λ n. let t = says A c l g x k (ea k) n in let v = p t.1 k t.0 t.2 in (v.0, t.2 ∙ sym v.1))
      (λ n.
      ⊎_elim
      (λ n2. let t = says C d j h y k (ec k) n2 in let v = r t.1 in (v.0, t.2 ∙ sym v.1))
      (λ n2. let t = says D e i u z k (ed k) n2 in let v = s t.1 in (v.0, t.2 ∙ sym v.1))
      (or_cases (list_any val ys) (list_any val zs) n))
      (or_cases (list_any val xs) _ (sym all ∙ m)))
      (λ m n. (
        subst (λ w. W w ≡ true) (sym n) (a m),
        all
            ∙ ⊎_elim
            (λ t. or_left _ _ (is_end A c l g x k (ea k) (subst (λ w. A w ≡ true) (sym (n ∙ t.1)) t.2) t.0 (n ∙ t.1)))
            (λ t. or_right (list_any val xs) _
            (⊎_elim
            (λ v. or_left _ _ (is_end C d j h y k (ec k) (subst (λ w. C w ≡ true) (sym (n ∙ v.1)) v.2) v.0 (n ∙ v.1)))
            (λ v. or_right (list_any val ys) _ (is_end D e i u z k (ed k) (subst (λ w. D w ≡ true) (sym (n ∙ v.1)) v.2) v.0 (n ∙ v.1)))
            t))
            (o m),
      ))

  -- a trap
  trapped_says : (A : ℕ → Bool) (c : ℕ) (l : Layer) (g : Bool) (x k : ℕ) → ((k : ℕ) → A k ≡ true → V (End c l k) ≡ (g && k == x)) →
      list_any val (trapped_ends A c l k) ≡ true → (g ≡ true) × (k ≡ trap_code x)
  trapped_says A c l g x zero e h =
      ⊎_elim
      (λ i. let s = says A c l g x 0 (e 0) i in (s.1, ap trap_code s.2))
      (λ i. let s = says A c l g x 2 (e 2) i in (s.1, ap trap_code s.2))
      (or_cases (list_any val (part_end A c l 0)) _ (sym (list_any-append val (part_end A c l 0) (part_end A c l 2)) ∙ h))
  trapped_says A c l g x (suc zero) e h = let s = says A c l g x 1 (e 1) h in (s.1, ap trap_code s.2)
  trapped_says A c l g x (suc (suc k)) e h =
      let s = says A c l g x (suc (suc (suc k))) (e (suc (suc (suc k)))) h in (s.1, ap trap_code s.2)

  trapped_is : (A : ℕ → Bool) (c : ℕ) (l : Layer) (g : Bool) (x y : ℕ) → ((k : ℕ) → A k ≡ true → V (End c l k) ≡ (g && k == y)) → A x ≡ true → g ≡ true →
      x ≡ y → list_any val (trapped_ends A c l (trap_code x)) ≡ true
  trapped_is A c l g zero y e a h z =
      list_any-append val (part_end A c l 0) (part_end A c l 2) ∙ or_left _ _ (is_end A c l g y 0 (e 0) a h z)
  trapped_is A c l g (suc zero) y e a h z = is_end A c l g y 1 (e 1) a h z
  trapped_is A c l g (suc (suc zero)) y e a h z =
      list_any-append val (part_end A c l 0) (part_end A c l 2) ∙ or_right (list_any val (part_end A c l 0)) _ (is_end A c l g y 2 (e 2) a h z)
  trapped_is A c l g (suc (suc (suc x))) y e a h z = is_end A c l g y (suc (suc (suc x))) (e (suc (suc (suc x)))) a h z

  pub trap_ends_live : (A W : ℕ → Bool) (c : ℕ) (l : Layer) (g : Bool) (x : ℕ) → ((k : ℕ) → A k ≡ true → V (End c l k) ≡ (g && k == x)) →
      (g ≡ true → A x ≡ true) → (g ≡ true → W (trap_code x) ≡ true) → (k : ℕ) → (W k && val (any_of (trapped_ends A c l k))) ≡ (g && k == trap_code x)
  trap_ends_live A W c l g x e a w k =
      ends_by (W k) _ g k (trap_code x)
      (λ h. trapped_says A c l g x k e (sym (any_meaning (trapped_ends A c l k)) ∙ h))
      (λ h z. (
        subst (λ j. W j ≡ true) (sym z) (w h),
        any_meaning (trapped_ends A c l k)
            ∙ subst (λ j. list_any val (trapped_ends A c l j) ≡ true) (sym z) (trapped_is A c l g x x e (a h) h refl),
      ))

  pub trap_ends : (A W : ℕ → Bool) (c : ℕ) (l : Layer) (g : Bool) (x : ℕ) → Ends c l g x → (g ≡ true → A x ≡ true) → (g ≡ true → W (trap_code x) ≡ true) →
      (k : ℕ) → (W k && val (any_of (trapped_ends A c l k))) ≡ (g && k == trap_code x)
  trap_ends A W c l g x e a w k = trap_ends_live A W c l g x (λ j z. e j) a w k

  -- a parallel at its start
  upto_says : (c : ℕ) (l : Layer) (g : Bool) (x k : ℕ) → Ends c l g x → upto (λ j. V (End c l j)) k ≡ true → (g ≡ true) × (x ≤ k)
  upto_says c l g x k e h =
      let u = upto-parts (λ j. V (End c l j)) k h in
      let i = and_parts g (u.0 == x) (sym (e u.0) ∙ u.2) in
      let z = eqb-true u.0 x i.1 in
      (i.0, omega (arith, u.1))

  upto_is : (c : ℕ) (l : Layer) (g : Bool) (x k : ℕ) → Ends c l g x → g ≡ true → x ≤ k → upto (λ j. V (End c l j)) k ≡ true
  upto_is c l g x k e h l2 = upto-in (λ j. V (End c l j)) x k (e x ∙ and_from _ _ h (eq-eqb x x refl)) l2

  pub parallel_ends : (A C W : ℕ → Bool) (c d : ℕ) (l : Layer) (b : Bool) (x y : ℕ) → Ends c l b x → Ends d l b y → (b ≡ true → A x ≡ true) →
      (b ≡ true → C y ≡ true) → (b ≡ true → W (max x y) ≡ true) → (k : ℕ) → (W k && val (started_parallel A C c d l k)) ≡ (b && k == max x y)
  parallel_ends A C W c d l b x y e f a g w k =
      ends_by (W k) _ b k (max x y)
      (λ h.
      let i = and_parts (upto (λ j. V (End c l j)) k) _ h in
      let j = and_parts (upto (λ j. V (End d l j)) k) _ i.1 in
      let p = upto_says c l b x k e i.0 in
      let q = upto_says d l b y k f j.0 in (
        p.0,
        ⊎_elim
            (λ m. let s = says A c l b x k (λ n. e k) m in omega (arith, s.2, p.1, q.1))
            (λ m. let s = says C d l b y k (λ n. f k) m in omega (arith, s.2, p.1, q.1))
            (or_cases (list_any val (part_end A c l k)) _ (sym (two_any (part_end A c l k) (part_end C d l k)) ∙ j.1)),
      ))
      (λ h z. (
        subst (λ j. W j ≡ true) (sym z) (w h),
        and_from _ _ (upto_is c l b x k e h (omega arith))
            (and_from _ _ (upto_is d l b y k f h (omega arith))
            (two_any (part_end A c l k) (part_end C d l k)
            ∙ ⊎_elim
            (λ m. let same : k ≡ x = omega arith in or_left _ _ (is_end A c l b x k (λ n. e k) (subst (λ j. A j ≡ true) (sym same) (a h)) h same))
            (λ m. let same : k ≡ y = omega arith in or_right (list_any val (part_end A c l k)) _
            (is_end C d l b y k (λ n. f k) (subst (λ j. C j ≡ true) (sym same) (g h)) h same))
            (greater x y))),
      ))
    where
      greater : (x y : ℕ) → (y ≤ x) ⊎ (x ≤ y)
      greater x y = ⊎_elim (λ l. inr (omega arith)) (λ l. inl l) (cases_lt x y)

  -- a resumed parallel: a branch that holds nothing counts as code 0
  if_any : (d : Bool) (f : Formula) → list_any val (cond d (f ∷ []) []) ≡ (d && val f)
  if_any true f = or-false (val f)
  if_any false f = refl

  branch_end-meaning : (A : ℕ → Bool) (n c k : ℕ) → list_any val (branch_end A n c k) ≡
      ((A k && (val (Selected c) && V (End c Resumed k))) || ((k == 0) && (not (val (Selected c)) && V (Go n Resumed))))
  branch_end-meaning A n c k =
      list_any-append val (cond (A k) (Conjunction (Selected c) (Value (End c Resumed k)) ∷ []) []) (cond (k == 0) (branch_over n c ∷ []) [])
      ∙ or-equal (if_any (A k) (Conjunction (Selected c) (Value (End c Resumed k)))) (if_any (k == 0) (branch_over n c))

  branch_upto-meaning : (A : ℕ → Bool) (n c k : ℕ) → val (branch_upto A n c k) ≡
      ((has_code A && (val (Selected c) && upto (λ j. V (End c Resumed j)) k)) || (not (val (Selected c)) && V (Go n Resumed)))
  branch_upto-meaning A n c k =
      any_meaning (cond (has_code A) (Conjunction (Selected c) (Upto c Resumed k) ∷ []) [] ++ (branch_over n c ∷ []))
      ∙ list_any-append val (cond (has_code A) (Conjunction (Selected c) (Upto c Resumed k) ∷ []) []) (branch_over n c ∷ [])
      ∙ or-equal (if_any (has_code A) (Conjunction (Selected c) (Upto c Resumed k))) (or-false (val (branch_over n c)))

  -- the code of a branch
  pub branch_number : Bool → ℕ → ℕ
  branch_number true x = x
  branch_number false x = 0

  pub branch_is : (h : Bool) (x : Walk) → branch_number h x.code ≡ (cond h x (ended 0)).code
  unfolding branch_number
  branch_is true x = refl
  branch_is false x = refl

  pick : (h : Bool) (x : ℕ) → h ≡ true → branch_number h x ≡ x
  unfolding branch_number
  pick true x e = refl
  pick false x e = absurd (false≢true e)

  pass_over : (h : Bool) (x : ℕ) → h ≡ false → branch_number h x ≡ 0
  unfolding branch_number
  pass_over true x e = absurd (false≢true (sym e))
  pass_over false x e = refl

  not_true : (a : Bool) → not a ≡ true → a ≡ false
  not_true true e = absurd (false≢true e)
  not_true false e = refl

  end_says : (A : ℕ → Bool) (n c : ℕ) (b h : Bool) (x k : ℕ) → V (Go n Resumed) ≡ b → val (Selected c) ≡ h →
      (A k ≡ true → V (End c Resumed k) ≡ ((b && h) && k == x)) → list_any val (branch_end A n c k) ≡ true → (b ≡ true) × (k ≡ branch_number h x)
  end_says A n c b h x k go sel e i =
      ⊎_elim
      (λ u.
      let s = and_parts (A k) _ u in
      let s2 = and_parts (val (Selected c)) _ s.1 in
      let t = and_parts (b && h) (k == x) (sym (e s.0) ∙ s2.1) in
      let g = and_parts b h t.0 in
      (g.0, eqb-true k x t.1 ∙ sym (pick h x g.1)))
      (λ u.
      let s = and_parts (k == 0) _ u in
      let s2 = and_parts (not (val (Selected c))) _ s.1 in
      (sym go ∙ s2.1, eqb-true k 0 s.0 ∙ sym (pass_over h x (sym sel ∙ not_true _ s2.0))))
      (or_cases (A k && (val (Selected c) && V (End c Resumed k))) _ (sym (branch_end-meaning A n c k) ∙ i))

  end_is : (A : ℕ → Bool) (n c : ℕ) (b h : Bool) (x k : ℕ) → V (Go n Resumed) ≡ b → val (Selected c) ≡ h →
      (A k ≡ true → V (End c Resumed k) ≡ ((b && h) && k == x)) → (b ≡ true → h ≡ true → A x ≡ true) → b ≡ true → k ≡ branch_number h x →
      list_any val (branch_end A n c k) ≡ true
  end_is A n c b h x k go sel e a i z =
      branch_end-meaning A n c k
      ∙ ⊎_elim
      (λ u.
      let same : k ≡ x = z ∙ pick h x u in
      let ak : A k ≡ true = subst (λ j. A j ≡ true) (sym same) (a i u) in
      or_left _ _ (and_from _ _ ak (and_from _ _ (sel ∙ u) (e ak ∙ and_from _ _ (and_from _ _ i u) (eq-eqb k x same)))))
      (λ u.
      or_right (A k && (val (Selected c) && V (End c Resumed k))) _
      (and_from _ _ (eq-eqb k 0 (z ∙ pass_over h x u)) (and_from _ _ (ap not (sel ∙ u)) (go ∙ i))))
      (cases_Bool h)

  upto_over : (A : ℕ → Bool) (n c : ℕ) (b h : Bool) (x k : ℕ) → V (Go n Resumed) ≡ b → val (Selected c) ≡ h → (has_code A ≡ true → Ends c Resumed (b && h) x) →
      val (branch_upto A n c k) ≡ true → branch_number h x ≤ k
  upto_over A n c b h x k go sel e i =
      ⊎_elim
      (λ u.
      let s = and_parts (has_code A) _ u in
      let s2 = and_parts (val (Selected c)) _ s.1 in
      let t = upto_says c Resumed (b && h) x k (e s.0) s2.1 in
      omega (arith, pick h x (sym sel ∙ s2.0), t.1))
      (λ u.
      let s = and_parts (not (val (Selected c))) _ u in
      omega (arith, pass_over h x (sym sel ∙ not_true _ s.0)))
      (or_cases (has_code A && (val (Selected c) && upto (λ j. V (End c Resumed j)) k)) _ (sym (branch_upto-meaning A n c k) ∙ i))

  upto_held : (A : ℕ → Bool) (n c : ℕ) (b h : Bool) (x k : ℕ) → V (Go n Resumed) ≡ b → val (Selected c) ≡ h → (has_code A ≡ true → Ends c Resumed (b && h) x) →
      (b ≡ true → h ≡ true → has_code A ≡ true) → b ≡ true → branch_number h x ≤ k → val (branch_upto A n c k) ≡ true
  upto_held A n c b h x k go sel e a i l =
      branch_upto-meaning A n c k
      ∙ ⊎_elim
      (λ u.
      let live = a i u in
      or_left _ _ (and_from _ _ live (and_from _ _ (sel ∙ u) (upto_is c Resumed (b && h) x k (e live) (and_from _ _ i u) (omega (arith, pick h x u))))))
      (λ u. or_right (has_code A && (val (Selected c) && upto (λ j. V (End c Resumed j)) k)) _ (and_from _ _ (ap not (sel ∙ u)) (go ∙ i)))
      (cases_Bool h)

  pub resumed_ends : (A C W : ℕ → Bool) (n c d : ℕ) (b h i : Bool) (x y : ℕ) → V (Go n Resumed) ≡ b → val (Selected c) ≡ h → val (Selected d) ≡ i →
      (has_code A ≡ true → Ends c Resumed (b && h) x) → (has_code C ≡ true → Ends d Resumed (b && i) y) → ((k : ℕ) → A k ≡ true → has_code A ≡ true) →
      ((k : ℕ) → C k ≡ true → has_code C ≡ true) → (b ≡ true → h ≡ true → A x ≡ true) → (b ≡ true → i ≡ true → C y ≡ true) →
      (b ≡ true → W (max (branch_number h x) (branch_number i y)) ≡ true) → (k : ℕ) →
      (W k && val (resumed_parallel A C n c d k)) ≡ (b && k == max (branch_number h x) (branch_number i y))
  resumed_ends A C W n c d b h i x y go sc sd ea ec la lc a g w k =
      let one = λ (s : A k ≡ true). ea (la k s) k in
      let two = λ (s : C k ≡ true). ec (lc k s) k in
      ends_by (W k) _ b k (max (branch_number h x) (branch_number i y))
      (λ u.
      let s = and_parts (val (branch_upto A n c k)) _ u in
      let t = and_parts (val (branch_upto C n d k)) _ s.1 in
      let p = upto_over A n c b h x k go sc ea s.0 in
      let q = upto_over C n d b i y k go sd ec t.0 in
      ⊎_elim
      (λ m. let v = end_says A n c b h x k go sc one m in (v.0, omega (arith, v.1, p, q)))
      (λ m. let v = end_says C n d b i y k go sd two m in (v.0, omega (arith, v.1, p, q)))
      (or_cases (list_any val (branch_end A n c k)) _ (sym (two_any (branch_end A n c k) (branch_end C n d k)) ∙ t.1)))
      (λ u z. (
        subst (λ j. W j ≡ true) (sym z) (w u),
        and_from _ _ (upto_held A n c b h x k go sc ea (λ v e. la x (a v e)) u (omega arith))
            (and_from _ _ (upto_held C n d b i y k go sd ec (λ v e. lc y (g v e)) u (omega arith))
            (two_any (branch_end A n c k) (branch_end C n d k)
            ∙ ⊎_elim
            (λ m. or_left _ _ (end_is A n c b h x k go sc one a u (omega arith)))
            (λ m. or_right (list_any val (branch_end A n c k)) _ (end_is C n d b i y k go sd two g u (omega arith)))
            (greater_of (branch_number h x) (branch_number i y)))),
      ))
    where
      greater_of : (x y : ℕ) → (y ≤ x) ⊎ (x ≤ y)
      greater_of x y = ⊎_elim (λ l. inr (omega arith)) (λ l. inl l) (cases_lt x y)

  -- a suspension that goes on
  pub awake_ends : (A W : ℕ → Bool) (C : Scope) (e : Expression) (n c : ℕ) (b d : Bool) (x code : ℕ) → V (Go n Resumed) ≡ b →
      val (test_formula C e Resumed) ≡ d → ((k : ℕ) → A k ≡ true → V (End c Resumed k) ≡ ((b && not d) && k == x)) → (d ≡ true → code ≡ 1) →
      (d ≡ false → code ≡ x) → (b ≡ true → d ≡ false → A x ≡ true) → (b ≡ true → W code ≡ true) → (k : ℕ) →
      (W k && val (any_of (part_end A c Resumed k ++ cond (k == 1) (Conjunction (Value (Go n Resumed)) (test_formula C e Resumed) ∷ []) []))) ≡ (b && k == code)
  awake_ends A W C e n c b d x code go test ends one other a w k =
      let own = Conjunction (Value (Go n Resumed)) (test_formula C e Resumed) in
      let all = two_any (part_end A c Resumed k) (cond (k == 1) (own ∷ []) []) in
      ends_by (W k) _ b k code
      (λ h.
      ⊎_elim
      (λ u.
      let s = says A c Resumed (b && not d) x k (ends k) u in
      let t = and_parts b (not d) s.1 in
      (t.0, s.2 ∙ sym (other (not_true d t.1))))
      (λ u.
      let s = and_parts (k == 1) (val own) (sym (if_any (k == 1) own) ∙ u) in
      let t = and_parts (V (Go n Resumed)) (val (test_formula C e Resumed)) s.1 in
      (sym go ∙ t.0, eqb-true k 1 s.0 ∙ sym (one (sym test ∙ t.1))))
      (or_cases (list_any val (part_end A c Resumed k)) _ (sym all ∙ h)))
      (λ h z. (
        subst (λ j. W j ≡ true) (sym z) (w h),
        all
            ∙ ⊎_elim
            (λ u. or_right (list_any val (part_end A c Resumed k)) _
            (if_any (k == 1) own ∙ and_from _ _ (eq-eqb k 1 (z ∙ one u)) (and_from _ _ (go ∙ h) (test ∙ u))))
            (λ u.
            let same : k ≡ x = z ∙ other u in
            or_left _ _ (is_end A c Resumed (b && not d) x k (ends k) (subst (λ j. A j ≡ true) (sym same) (a h u)) (and_from _ _ h (ap not u)) same))
            (cases_Bool d),
      ))
