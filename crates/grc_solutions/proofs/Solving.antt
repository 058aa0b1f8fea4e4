-- Equations that read up in rank have one solution: it is reached in as many turns as there are ranks.
use Rattle.std.proofs.Common.{◌≡◌, ℕ, zero, suc, ◌<◌, ◌≤◌, Bool, false, not, ◌&&◌, ◌||◌, cond, max, List, [], ◌∷◌, length, get_or, refl, sym, ap, ◌∙◌, subst}
use Rattle.std.proofs.Common.{⊎_elim, arith}
use Rattle.std.specs.Prelude.{Contains}
use Rattle.std.proofs.lemmas.Bool.{cond_both, cases_Bool, cond-true, cond-false, or_parts}
use Rattle.std.proofs.lemmas.List.{length-map, get_or-map}
use Rattle.std.proofs.lemmas.List.Elements.{All-contains, Contains-get_or}
use Rattle.base_types.specs.Codes.{upto}
use Rattle.grc_graph.specs.Wires.{Wire, End, same_wire}
use Rattle.grc_graph.specs.Formulas.{Formula, Value, Upto, Kept, Held, Negation, Conjunction, Disjunction}
use Rattle.grc_graph.specs.Equations.{Equation}
use Rattle.grc_graph.specs.Reads.{ReadsOnly}
use Rattle.grc_graph.specs.Walk.{State}
use Rattle.grc_graph.specs.Readings.{Valuation}
use Rattle.grc_graph.specs.GraphRuns.{PlainGraph, SolvesGraph, formula_value}
use Rattle.grc_graph.proofs.Exports.{same_wire-self, same_wire-true}
use Rattle.grc_solutions.specs.GraphWires.{equation_wires, Differ}
use Rattle.grc_solutions.specs.Solutions.{ReadUp, OneSolution}
use Rattle.grc_solutions.proofs.SameWires.{is_given, given_contained, equation_of}

upto_agree : (A B : ℕ → Bool) (k : ℕ) → ((j : ℕ) → j ≤ k → A j ≡ B j) → upto A k ≡ upto B k
upto_agree A B zero h = h 0 (omega arith)
upto_agree A B (suc k) h =
    ap (λ b. b || A (suc k)) (upto_agree A B k (λ j l. h j (omega arith))) ∙ ap (λ b. upto B k || b) (h (suc k) (omega arith))

module _ (g : PlainGraph) (q : State) (event : List Bool) where
  abbrev value : Valuation → Formula → Bool
  value V a = formula_value g q event V a

  -- a formula means the same where what it reads agrees
  pub agree : (P : Wire → Type 0) (V W : Valuation) → ((u : Wire) → P u → V u ≡ W u) → (a : Formula) → ReadsOnly P a → value V a ≡ value W a
  agree P V W f (Value w) h = f w h
  agree P V W f (Upto n l k) h = upto_agree (λ j. V (End n l j)) (λ j. W (End n l j)) k (λ j i. f (End n l j) (h j i))
  agree P V W f (Kept n l) h = absurd h
  agree P V W f (Held n l) h = absurd h
  agree P V W f (Negation a) h = ap not (agree P V W f a h)
  agree P V W f (Conjunction a b) h =
      ap (λ x. x && value V b) (agree P V W f a h.0) ∙ ap (λ x. value W a && x) (agree P V W f b h.1)
  agree P V W f (Disjunction a b) h =
      ap (λ x. x || value V b) (agree P V W f a h.0) ∙ ap (λ x. value W a || x) (agree P V W f b h.1)
  agree P V W f _ h = refl

  -- the value of the first equation of a wire; of no wire false
  step : Valuation → List Equation → Valuation
  step V [] w = false
  step V (e ∷ es) w = cond (same_wire w e.wire) (value V e.formula) (step V es w)

  step_off : (V : Valuation) (es : List Equation) (w : Wire) → is_given es w ≡ false → step V es w ≡ false
  unfolding step
  step_off V [] w h = refl
  step_off V (e ∷ es) w h =
      let p = or_parts (same_wire w e.wire) (is_given es w) h in
      cond-false (same_wire w e.wire) (value V e.formula) (step V es w) p.0 ∙ step_off V es w p.1

  step_agree : (V W : Valuation) (es : List Equation) (w : Wire) → ((e : Equation) → Contains es e → w ≡ e.wire → value V e.formula ≡ value W e.formula) →
      step V es w ≡ step W es w
  unfolding step
  step_agree V W [] w f = refl
  step_agree V W (e ∷ es) w f =
      cond_both (same_wire w e.wire) (value V e.formula) (step V es w) (λ x. x ≡ cond (same_wire w e.wire) (value W e.formula) (step W es w))
      (λ h. f e (0, omega arith, refl) (same_wire-true w e.wire h) ∙ sym (cond-true (same_wire w e.wire) (value W e.formula) (step W es w) h))
      (λ h. step_agree V W es w (λ d c. f d (suc c.0, omega (arith, c.1), c.2)) ∙ sym (cond-false (same_wire w e.wire) (value W e.formula) (step W es w) h))

  step_at : (V : Valuation) (es : List Equation) → Differ (equation_wires es) → (e : Equation) → Contains es e → step V es e.wire ≡ value V e.formula
  unfolding step
  step_at V [] d e c = absurd (omega (arith, c.1))
  step_at V (f ∷ es) d e c = go c.0 c.1 c.2 (step_at V es rest e)
    where
      rest : Differ (equation_wires es)
      rest i j x l m = d (suc i) (suc j) x (omega arith) (omega arith)

      here : (x : Equation) → f ≡ x → cond (same_wire x.wire f.wire) (value V f.formula) (step V es x.wire) ≡ value V x.formula
      here x h = subst (λ y. cond (same_wire y.wire f.wire) (value V f.formula) (step V es y.wire) ≡ value V y.formula) h
          (cond-true (same_wire f.wire f.wire) (value V f.formula) (step V es f.wire) (same_wire-self f.wire))

      apart : (k : ℕ) → k < length es → get_or es k e ≡ e → e.wire ≡ f.wire → ⊥
      apart k l h s =
          d 0 (suc k) f.wire (omega arith) (omega (arith, l, length-map es (λ (x : Equation). x.wire)))
          (sym s ∙ sym (get_or-map (λ (x : Equation). x.wire) es k e f.wire l ∙ ap (λ x. x.wire) h))

      go : (k : ℕ) → k < suc (length es) → get_or (f ∷ es) k e ≡ e → (Contains es e → step V es e.wire ≡ value V e.formula) →
          step V (f ∷ es) e.wire ≡ value V e.formula
      go zero l h i = here e h
      go (suc k) l h i =
          cond_both (same_wire e.wire f.wire) (value V f.formula) (step V es e.wire) (λ x. x ≡ value V e.formula)
          (λ s. absurd (apart k (omega arith) h (same_wire-true e.wire f.wire s)))
          (λ s. i (k, omega arith, h))

  -- what a wire agrees in, of two valuations that are false off the wires
  agree_on : (V W : Valuation) (es : List Equation) → ((w : Wire) → is_given es w ≡ false → V w ≡ false) → ((w : Wire) → is_given es w ≡ false → W w ≡ false) →
      (u : Wire) → (Contains (equation_wires es) u → V u ≡ W u) → V u ≡ W u
  agree_on V W es f h u i =
      ⊎_elim (λ e. i (given_contained es u e)) (λ e. f u e ∙ sym (h u e)) (cases_Bool (is_given es u))

  module _ (rank : Wire → ℕ) (up : ReadUp rank g.equations) where
    -- each turn evaluates all equations under the values of the last one
    turns : ℕ → Valuation
    turns zero = λ w. false
    turns (suc i) = step (turns i) g.equations

    turns_off : (i : ℕ) (w : Wire) → is_given g.equations w ≡ false → turns i w ≡ false
    unfolding turns
    turns_off zero w h = refl
    turns_off (suc i) w h = step_off (turns i) g.equations w h

    -- a formula of a wire below a rank, under two valuations that agree below
    formula_agrees : (V W : Valuation) (i : ℕ) → ((w : Wire) → is_given g.equations w ≡ false → V w ≡ false) →
        ((w : Wire) → is_given g.equations w ≡ false → W w ≡ false) → ((u : Wire) → rank u < i → V u ≡ W u) → (e : Equation) → Contains g.equations e →
        rank e.wire < suc i → value V e.formula ≡ value W e.formula
    formula_agrees V W i f h below e c l =
        agree (λ u. Contains (equation_wires g.equations) u → rank u < rank e.wire) V W
        (λ u r. agree_on V W g.equations f h u (λ k. below u (omega (arith, r k, l))))
        e.formula (All-contains (λ x. ReadsOnly (λ u. Contains (equation_wires g.equations) u → rank u < rank x.wire) x.formula) g.equations e up c)

    stable : (i : ℕ) (w : Wire) → rank w < i → turns (suc i) w ≡ turns i w
    unfolding turns
    stable zero w l = absurd (omega arith)
    stable (suc i) w l =
        step_agree (turns (suc i)) (turns i) g.equations w
        (λ e c s. formula_agrees (turns (suc i)) (turns i) i (turns_off (suc i)) (turns_off i) (stable i) e c (subst (λ x. rank x < suc i) s l))

    same_next : (V W : Valuation) → SolvesGraph g q event V → SolvesGraph g q event W → (i : ℕ) → ((u : Wire) → rank u < i → V u ≡ W u) → (w : Wire)
        → rank w < suc i →
        V w ≡ W w
    same_next V W s r i below w l = agree_on V W g.equations s.others r.others w (λ c. at (equation_of g.equations w c))
      where
        met : (U : Valuation) → SolvesGraph g q event U → (e : Equation) → Contains g.equations e → U e.wire ≡ value U e.formula
        met U h e c = All-contains (λ x. U x.wire ≡ value U x.formula) g.equations e h.met c

        at : (e : Equation) × Contains g.equations e × (e.wire ≡ w) → V w ≡ W w
        at c =
            subst (λ x. V x ≡ W x) c.2
            (met V s c.0 c.1
            ∙ formula_agrees V W i s.others r.others below c.0 c.1 (subst (λ x. rank x < suc i) (sym c.2) l)
            ∙ sym (met W r c.0 c.1))

    same_below : (V W : Valuation) → SolvesGraph g q event V → SolvesGraph g q event W → (i : ℕ) (w : Wire) → rank w < i → V w ≡ W w
    same_below V W s r zero w l = absurd (omega arith)
    same_below V W s r (suc i) w l = same_next V W s r i (same_below V W s r i) w l

    most : List Equation → ℕ
    most [] = 0
    most (e ∷ es) = max (rank e.wire) (most es)

    below_most : (es : List Equation) (e : Equation) → Contains es e → rank e.wire ≤ most es
    unfolding most
    below_most [] e c = absurd (omega (arith, c.1))
    below_most (f ∷ es) e c = go c.0 c.1 c.2 (below_most es e)
      where
        go : (k : ℕ) → k < suc (length es) → get_or (f ∷ es) k e ≡ e → (Contains es e → rank e.wire ≤ most es) → rank e.wire ≤ max (rank f.wire) (most es)
        go zero l h r = let i = ap (λ x. rank x.wire) h in omega (arith, i)
        go (suc k) l h r = omega (arith, r (k, omega arith, h))

    -- what is reached after more turns than the greatest rank
    solved : Differ (equation_wires g.equations) → SolvesGraph g q event (turns (suc (most g.equations)))
    unfolding turns
    solved d = record {
      met = λ k x l.
          let e = get_or g.equations k x in
          let c = Contains-get_or g.equations k x l in
          let i = below_most g.equations e c in
          sym (stable (suc (most g.equations)) e.wire (omega (arith, i)))
          ∙ step_at (turns (suc (most g.equations))) g.equations d e c;
      others = turns_off (suc (most g.equations));
    }

pub one_solution_lem : OneSolution
one_solution_lem g rank differ up q event = (
  (turns g q event rank up (suc (most g q event rank up g.equations)), solved g q event rank up differ),
  λ V W s r w. same_below g q event rank up V W s r (suc (rank w)) w (omega arith),
)
