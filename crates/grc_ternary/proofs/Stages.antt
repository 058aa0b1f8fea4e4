-- Stages of the least solution: from nothing known each stage reads all formulas under the statuses of the stage before.
-- No stage knows more than a solution, and since each knows at least what the one before it knows, one of them is a
-- solution; whatever each stage keeps, it keeps. This asks nothing of how the equations were made.
use Rattle.std.proofs.Common.{◌≡◌, ℕ, zero, suc, ◌<◌, ◌≤◌, ◌⊎◌, Bool, true, false, ◌||◌, cond, List, [], ◌∷◌, length, get_or, inl, inr, ⊎_elim, refl, sym}
use Rattle.std.proofs.Common.{ap, ◌∙◌, subst, arith}
use Rattle.std.specs.Prelude.{Contains}
use Rattle.std.proofs.lemmas.Bool.{cond_both, cases_Bool, cond-true, cond-false, or_parts, false≢true}
use Rattle.std.proofs.lemmas.List.{length-map, get_or-map}
use Rattle.std.proofs.lemmas.List.Elements.{Contains-get_or}
use mathlib.Core.Path.{fun_ext}
use Rattle.base_facts.proofs.Lists.{Every}
use Rattle.est_kernel.specs.Statuses.{Status, Plus, Minus, Unknown}
use Rattle.est_kernel.specs.Laws.{IsBelow}
use Rattle.est_kernel.proofs.Exports.{below_meets, below_self, conjunction_below, disjunction_below, opposite_below}
use Rattle.grc_graph.specs.Wires.{Wire, End, same_wire}
use Rattle.grc_graph.specs.Formulas.{Formula, Const, Boot, Input, Value, Selected, Upto, Kept, Held, Negation, Conjunction, Disjunction}
use Rattle.grc_graph.specs.Equations.{Equation}
use Rattle.grc_graph.specs.Walk.{State}
use Rattle.grc_graph.specs.GraphRuns.{PlainGraph}
use Rattle.grc_graph.proofs.Exports.{same_wire-self, same_wire-true}
use Rattle.grc_solutions.specs.GraphWires.{equation_wires, Differ}
use Rattle.grc_solutions.proofs.Exports.{every_of_all, is_given}
use Rattle.grc_ternary.specs.LeastSolutions.{Statuses, upto_status, formula_status, TriSolves, IsLeast}

-- each status of the first is below that of the second
abbrev pub AllBelow : Statuses → Statuses → Type 0
AllBelow T U = (w : Wire) → IsBelow (T w) (U w)

pub upto_status_below : (A B : ℕ → Status) → ((j : ℕ) → IsBelow (A j) (B j)) → (k : ℕ) → IsBelow (upto_status A k) (upto_status B k)
upto_status_below A B f zero = f 0
upto_status_below A B f (suc k) =
    disjunction_below (upto_status A k) (upto_status B k) (A (suc k)) (B (suc k)) (upto_status_below A B f k) (f (suc k))

-- ---- how many wires of a list are unknown

-- one more where the status is unknown
abbrev one_more : Status → ℕ → ℕ
one_more Unknown n = suc n
one_more _ n = n

pub unknowns : Statuses → List Equation → ℕ
unknowns T [] = 0
unknowns T (e ∷ es) = one_more (T e.wire) (unknowns T es)

-- the two statuses of each wire are the same
abbrev pub Alike : Statuses → Statuses → List Equation → Type 0
Alike T U [] = Unit {0}
Alike T U (e ∷ es) = (T e.wire ≡ U e.wire) × Alike T U es

more_known : (v w : Status) (m n : ℕ) → IsBelow v w → (m < n) ⊎ (m ≡ n) → (one_more w m < one_more v n) ⊎ ((one_more w m ≡ one_more v n) × (v ≡ w))
more_known Plus w m n b h =
    ⊎_elim (λ l. inl (subst (λ x. one_more x m < n) (sym b) l)) (λ e. inr (subst (λ x. one_more x m ≡ n) (sym b) e, sym b)) h
more_known Minus w m n b h =
    ⊎_elim (λ l. inl (subst (λ x. one_more x m < n) (sym b) l)) (λ e. inr (subst (λ x. one_more x m ≡ n) (sym b) e, sym b)) h
more_known Unknown Plus m n b h = ⊎_elim (λ l. inl (omega arith)) (λ e. inl (omega arith)) h
more_known Unknown Minus m n b h = ⊎_elim (λ l. inl (omega arith)) (λ e. inl (omega arith)) h
more_known Unknown Unknown m n b h = ⊎_elim (λ l. inl (omega arith)) (λ e. inr (omega arith, refl)) h

-- what is below another has more unknown wires, or is the same on the list
fewer_or_alike : (T U : Statuses) → AllBelow T U → (es : List Equation) → (unknowns U es < unknowns T es) ⊎ ((unknowns U es ≡ unknowns T es) × Alike T U es)
unfolding unknowns
fewer_or_alike T U b [] = inr (refl, tt)
fewer_or_alike T U b (e ∷ es) =
    ⊎_elim
    (λ l. ⊎_elim (λ i. inl i) (λ i. inl (lost (T e.wire) (U e.wire) i.1 l)) (more_known (T e.wire) (U e.wire) _ _ (b e.wire) (inl l)))
    (λ a. ⊎_elim (λ i. inl i) (λ i. inr (i.0, (i.1, a.1))) (more_known (T e.wire) (U e.wire) _ _ (b e.wire) (inr a.0)))
    (fewer_or_alike T U b es)
  where
    lost : (v w : Status) → v ≡ w → unknowns U es < unknowns T es → one_more w (unknowns U es) < one_more v (unknowns T es)
    lost v w e l = subst (λ x. one_more x (unknowns U es) < one_more v (unknowns T es)) e (same v)
      where
        same : (v : Status) → one_more v (unknowns U es) < one_more v (unknowns T es)
        same Unknown = omega arith
        same _ = l

module _ (g : PlainGraph) (q : State) (event : List Bool) where
  abbrev pub status : Statuses → Formula → Status
  status T a = formula_status g q event T a

  -- the more is known of wires, the more is known of each formula
  pub formula_below : (T U : Statuses) → AllBelow T U → (a : Formula) → IsBelow (status T a) (status U a)
  formula_below T U b (Value w) = b w
  formula_below T U b (Upto n l k) = upto_status_below (λ j. T (End n l j)) (λ j. U (End n l j)) (λ j. b (End n l j)) k
  formula_below T U b (Kept n l) = tt
  formula_below T U b (Held n l) = tt
  formula_below T U b (Negation a) = opposite_below (status T a) (status U a) (formula_below T U b a)
  formula_below T U b (Conjunction a c) =
      conjunction_below (status T a) (status U a) (status T c) (status U c) (formula_below T U b a) (formula_below T U b c)
  formula_below T U b (Disjunction a c) =
      disjunction_below (status T a) (status U a) (status T c) (status U c) (formula_below T U b a) (formula_below T U b c)
  formula_below T U b _ = below_self _

  -- ---- the next stage: the status of the first equation of a wire; of no wire false

  pub next : Statuses → List Equation → Statuses
  next T [] w = Minus
  next T (e ∷ es) w = cond (same_wire w e.wire) (status T e.formula) (next T es w)

  pub next_off : (T : Statuses) (es : List Equation) (w : Wire) → is_given es w ≡ false → next T es w ≡ Minus
  unfolding next
  next_off T [] w h = refl
  next_off T (e ∷ es) w h =
      let p = or_parts (same_wire w e.wire) (is_given es w) h in
      cond-false (same_wire w e.wire) (status T e.formula) (next T es w) p.0 ∙ next_off T es w p.1

  next_below : (T U : Statuses) → AllBelow T U → (es : List Equation) → AllBelow (next T es) (next U es)
  unfolding next
  next_below T U b [] w = refl
  next_below T U b (e ∷ es) w = by (same_wire w e.wire) (next_below T U b es w)
    where
      by : (c : Bool) → IsBelow (next T es w) (next U es w) →
          IsBelow (cond c (status T e.formula) (next T es w)) (cond c (status U e.formula) (next U es w))
      by true h = formula_below T U b e.formula
      by false h = h

  pub next_at : (T : Statuses) (es : List Equation) → Differ (equation_wires es) → (e : Equation) → Contains es e → next T es e.wire ≡ status T e.formula
  unfolding next
  next_at T [] d e c = absurd (omega (arith, c.1))
  next_at T (f ∷ es) d e c = go c.0 c.1 c.2 (next_at T es rest e)
    where
      rest : Differ (equation_wires es)
      rest i j x l m = d (suc i) (suc j) x (omega arith) (omega arith)

      here : (x : Equation) → f ≡ x → cond (same_wire x.wire f.wire) (status T f.formula) (next T es x.wire) ≡ status T x.formula
      here x h = subst (λ y. cond (same_wire y.wire f.wire) (status T f.formula) (next T es y.wire) ≡ status T y.formula) h
          (cond-true (same_wire f.wire f.wire) (status T f.formula) (next T es f.wire) (same_wire-self f.wire))

      apart : (k : ℕ) → k < length es → get_or es k e ≡ e → e.wire ≡ f.wire → ⊥
      apart k l h s =
          d 0 (suc k) f.wire (omega arith) (omega (arith, l, length-map es (λ (x : Equation). x.wire)))
          (sym s ∙ sym (get_or-map (λ (x : Equation). x.wire) es k e f.wire l ∙ ap (λ x. x.wire) h))

      go : (k : ℕ) → k < suc (length es) → get_or (f ∷ es) k e ≡ e → (Contains es e → next T es e.wire ≡ status T e.formula) →
          next T (f ∷ es) e.wire ≡ status T e.formula
      go zero l h i = here e h
      go (suc k) l h i =
          cond_both (same_wire e.wire f.wire) (status T f.formula) (next T es e.wire) (λ x. x ≡ status T e.formula)
          (λ s. absurd (apart k (omega arith) h (same_wire-true e.wire f.wire s)))
          (λ s. i (k, omega arith, h))

  -- a solution is the next stage of itself
  next_met : (U : Statuses) (es : List Equation) → Every (λ e. U e.wire ≡ status U e.formula) es → (w : Wire) → is_given es w ≡ true → next U es w ≡ U w
  unfolding next
  next_met U [] h w c = absurd (false≢true c)
  next_met U (e ∷ es) h w c = by (same_wire w e.wire) refl c (λ d. next_met U es h.1 w d)
    where
      by : (b : Bool) → same_wire w e.wire ≡ b → (b || is_given es w) ≡ true → (is_given es w ≡ true → next U es w ≡ U w) →
          cond b (status U e.formula) (next U es w) ≡ U w
      by true is d f = sym h.0 ∙ ap U (sym (same_wire-true w e.wire is))
      by false is d f = f d

  pub solution_stays : (U : Statuses) → TriSolves g q event U → (w : Wire) → next U g.equations w ≡ U w
  solution_stays U s w =
      ⊎_elim
      (λ e. next_met U g.equations (every_of_all (λ e. U e.wire ≡ status U e.formula) g.equations s.met) w e)
      (λ e. next_off U g.equations w e ∙ sym (s.others w e))
      (cases_Bool (is_given g.equations w))

  -- what is its own next stage is a solution
  stays_solution : Differ (equation_wires g.equations) → (U : Statuses) → ((w : Wire) → next U g.equations w ≡ U w) → TriSolves g q event U
  stays_solution d U f = record {
    met = λ k x l.
        let e = get_or g.equations k x in
        sym (f e.wire) ∙ next_at U g.equations d e (Contains-get_or g.equations k x l);
    others = λ w h. sym (f w) ∙ next_off U g.equations w h;
  }

  -- ---- the first stage: nothing is known of the wires, and what is no wire is false

  pub start : Statuses
  start w = cond (is_given g.equations w) Unknown Minus

  pub start_on : (w : Wire) → is_given g.equations w ≡ true → start w ≡ Unknown
  unfolding start
  start_on w h = cond-true (is_given g.equations w) Unknown Minus h

  pub start_off : (w : Wire) → is_given g.equations w ≡ false → start w ≡ Minus
  unfolding start
  start_off w h = cond-false (is_given g.equations w) Unknown Minus h

  start_below : (U : Statuses) → ((w : Wire) → is_given g.equations w ≡ false → U w ≡ Minus) → AllBelow start U
  start_below U f w =
      ⊎_elim
      (λ e. subst (λ v. IsBelow v (U w)) (sym (start_on w e)) tt)
      (λ e. subst (λ v. IsBelow v (U w)) (sym (start_off w e)) (f w e))
      (cases_Bool (is_given g.equations w))

  -- what each stage keeps: what is no wire is false
  abbrev pub Off : Statuses → Type 0
  Off T = (w : Wire) → is_given g.equations w ≡ false → T w ≡ Minus

  pub record Stage (P : Statuses → Type 0) : Type 0 where
    pub first : P start
    pub later : (T : Statuses) → Off T → P T → P (next T g.equations)

  pub record Fixed (P : Statuses → Type 0) : Type 0 where
    pub at : Statuses
    pub keeps : P at
    pub stays : (w : Wire) → next at g.equations w ≡ at w

  alike_at : (T U : Statuses) (es : List Equation) → Alike T U es → (w : Wire) → is_given es w ≡ true → T w ≡ U w
  alike_at T U [] a w h = absurd (false≢true h)
  alike_at T U (e ∷ es) a w h = by (same_wire w e.wire) refl h (λ d. alike_at T U es a.1 w d)
    where
      by : (b : Bool) → same_wire w e.wire ≡ b → (b || is_given es w) ≡ true → (is_given es w ≡ true → T w ≡ U w) → T w ≡ U w
      by true is d f = subst (λ x. T x ≡ U x) (sym (same_wire-true w e.wire is)) a.0
      by false is d f = f d

  same_stays : (P : Statuses → Type 0) (T : Statuses) → P T → Off T → Alike T (next T g.equations) g.equations → Fixed P
  same_stays P T p off a = record {
    at = T;
    keeps = p;
    stays = λ w.
        ⊎_elim
        (λ e. sym (alike_at T (next T g.equations) g.equations a w e))
        (λ e. next_off T g.equations w e ∙ sym (off w e))
        (cases_Bool (is_given g.equations w));
  }

  -- a stage that knows no more than the one after it leads to a stage that stays
  stages : (P : Statuses → Type 0) → Stage P → (fuel : ℕ) (T : Statuses) → P T → Off T → AllBelow T (next T g.equations) → unknowns T g.equations ≤ fuel →
      Fixed P
  stages P s zero T p off b l =
      ⊎_elim (λ i. absurd (omega arith)) (λ i. same_stays P T p off i.1) (fewer_or_alike T (next T g.equations) b g.equations)
  stages P s (suc n) T p off b l =
      ⊎_elim
      (λ i. stages P s n (next T g.equations) (s.later T off p) (next_off T g.equations)
      (next_below T (next T g.equations) b g.equations) (omega arith))
      (λ i. same_stays P T p off i.1)
      (fewer_or_alike T (next T g.equations) b g.equations)

  -- ---- there is a least solution, and it has whatever each stage keeps

  pub record LeastKept (P : Statuses → Type 0) : Type 0 where
    pub at : Statuses
    pub least : IsLeast g q event at
    pub keeps : P at

  pub least_kept : Differ (equation_wires g.equations) → (P : Statuses → Type 0) → Stage P → LeastKept P
  least_kept d P s =
      let below : Stage (λ T. P T × ((U : Statuses) → TriSolves g q event U → AllBelow T U)) = record {
        first = (s.first, λ U h. start_below U h.others);
        later = λ T off p. (
          s.later T off p.0,
          λ U h w. subst (λ v. IsBelow (next T g.equations w) v) (solution_stays U h w) (next_below T U (p.1 U h) g.equations w),
        );
      } in
      let f = stages (λ T. P T × ((U : Statuses) → TriSolves g q event U → AllBelow T U)) below (unknowns start g.equations) start below.first start_off
      (start_below (next start g.equations) (next_off start g.equations)) (omega arith) in
      record { at = f.at; least = record { solves = stays_solution d f.at f.stays; least = f.keeps.1 }; keeps = f.keeps.0 }

  pub least_is_kept : Differ (equation_wires g.equations) → (P : Statuses → Type 0) → Stage P → (T : Statuses) → IsLeast g q event T → P T
  least_is_kept d P s T l =
      let k = least_kept d P s in
      subst P (fun_ext (λ w. below_meets (k.at w) (T w) (k.least.least T l.solves w) (l.least k.at k.least.solves w))) k.keeps
