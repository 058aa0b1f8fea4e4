-- From statuses that are met by a program's equations, row by row, to what its wires follow from; and where the graph has
-- no wire, statuses that are false off the wires are false.
use Rattle.std.proofs.Common.{◌≡◌, ℕ, ◌+◌, true, false, ◌&&◌, ◌||◌, ◌==◌, List, [], ◌∷◌, ◌++◌, map, refl, sym, ap, ◌∙◌, subst, inl}
use Rattle.std.specs.List.{list_any, flat_map, range_with_len}
use Rattle.std.proofs.lemmas.List.Folds.{list_any-append}
use Rattle.std.proofs.lemmas.Bool.{and_parts, or_left, or_right, eqb-true, cond_both, false_from_ne_true, both_ways}
use Rattle.base_facts.proofs.Lists.{Every, every-append}
use Rattle.est_kernel.specs.Statuses.{Minus}
use Rattle.est_kernel.specs.Terms.{Term, Nothing, Pause, Emit, Exit, Present, Suspend, Seq, Loop, Par, Trap, Local, Awake}
use Rattle.est_kernel.specs.Preorder.{statement_count}
use Rattle.est_kernel.specs.StaticCodes.{has_code, resumed_codes}
use Rattle.grc_graph.specs.Layers.{Layer, Started, same_layer, body_layers, body_liveness}
use Rattle.grc_graph.specs.Scopes.{Scope, bind, program_scope}
use Rattle.grc_graph.specs.Wires.{Wire, Go, StatusOf, End, same_wire, listed, instance_codes}
use Rattle.grc_graph.specs.Formulas.{Formula}
use Rattle.grc_graph.specs.Spots.{Spot, spots, spots_at, body_spots, body_entry}
use Rattle.grc_graph.specs.Equations.{Equation, equations, end_formula, emissions, instance_status, instance_equations, output_equation}
use Rattle.grc_graph.specs.Walk.{State, Values}
use Rattle.grc_graph.specs.Selected.{HasExitCodes}
use Rattle.grc_graph.proofs.Exports.{body_agrees, codes_below-kernel, same_layer-self, same_layer-true}
use Rattle.grc_solutions.proofs.Exports.{every_both, every_left, every_right, every_map, every_flat_map, every_listed, every_from, spot, EachStarted}
use Rattle.grc_solutions.proofs.Exports.{EachResumed, layered, statement_at, Looked, looked}
use Rattle.grc_solutions_laws.proofs.Exports.{dead_in, any_map_none, any_flat_none, any_listed_none}
use Rattle.est_ternary.specs.TriWalks.{where_met}
use Rattle.grc_ternary.specs.LeastSolutions.{Statuses}
use Rattle.grc_ternary.proofs.Formulas.{val, any_meaning}
use Rattle.grc_ternary.proofs.Quiet.{lives, OffLayers}
use Rattle.grc_ternary.proofs.StartedEquations.{Next}

-- ---- each instance is live in its layer

layers_live : (ls : List Layer) → Every (λ l. lives ls l ≡ true) ls
layers_live [] = tt
layers_live (l ∷ ls) = (
  or_left (same_layer l l) (lives ls l) (same_layer-self l),
  every_from (λ j. lives ls j ≡ true) (λ j. lives (l ∷ ls) j ≡ true) ls (λ j e. or_right (same_layer j l) (lives ls j) e) (layers_live ls),
)

abbrev pub Lived : (ℕ → List Layer) → Spot → Type 0
Lived L x = lives (L x.path) x.layer ≡ true

lived_spots : (L : ℕ → List Layer) (B : Scope) (f : Layer → Formula) (t : Term) (n : ℕ) (ls : List Layer) → Every (λ l. lives (L n) l ≡ true) ls →
    Every (Lived L) (map (λ l. spot B f t n l) ls)
lived_spots L B f t n [] h = tt
lived_spots L B f t n (l ∷ ls) h = (h.0, lived_spots L B f t n ls h.1)

lived_at : (L : ℕ → List Layer) (B : Scope) (f : Layer → Formula) (t : Term) (n : ℕ) → Every (Lived L) (spots_at L B f t n)
lived_at L B f t n = lived_spots L B f t n (L n) (layers_live (L n))

lived : (L : ℕ → List Layer) (B : Scope) (f : Layer → Formula) (t : Term) (n : ℕ) → Every (Lived L) (spots L B f t n)
lived L B f (Present e p q) n =
    every-append (Lived L) (spots_at L B f (Present e p q) n) _ (lived_at L B f (Present e p q) n)
    (every-append (Lived L) (spots L B _ p (n + 1)) _ (lived L B _ p (n + 1)) (lived L B _ q (n + 1 + statement_count p)))
lived L B f (Suspend e p) n =
    every-append (Lived L) (spots_at L B f (Suspend e p) n) _ (lived_at L B f (Suspend e p) n) (lived L B _ p (n + 1))
lived L B f (Seq p q) n =
    every-append (Lived L) (spots_at L B f (Seq p q) n) _ (lived_at L B f (Seq p q) n)
    (every-append (Lived L) (spots L B _ p (n + 1)) _ (lived L B _ p (n + 1)) (lived L B _ q (n + 1 + statement_count p)))
lived L B f (Loop at p) n = every-append (Lived L) (spots_at L B f (Loop at p) n) _ (lived_at L B f (Loop at p) n) (lived L B _ p (n + 1))
lived L B f (Par p q) n =
    every-append (Lived L) (spots_at L B f (Par p q) n) _ (lived_at L B f (Par p q) n)
    (every-append (Lived L) (spots L B _ p (n + 1)) _ (lived L B _ p (n + 1)) (lived L B _ q (n + 1 + statement_count p)))
lived L B f (Trap p) n = every-append (Lived L) (spots_at L B f (Trap p) n) _ (lived_at L B f (Trap p) n) (lived L B _ p (n + 1))
lived L B f (Local s p) n =
    every-append (Lived L) (spots_at L B f (Local s p) n) _ (lived_at L B f (Local s p) n) (lived L (bind B s n) _ p (n + 1))
lived L B f (Awake e p) n = every-append (Lived L) (spots_at L B f (Awake e p) n) _ (lived_at L B f (Awake e p) n) (lived L B _ p (n + 1))
lived L B f t n = lived_at L B f t n

-- ---- the wires of a place where nothing is live are none of an instance's

module _ (all : List Spot) (L : ℕ → List Layer) (n : ℕ) (l : Layer) (out : lives (L n) l ≡ false) (y : Spot) (live : Lived L y) where
  elsewhere : y.path ≡ n → y.layer ≡ l → ⊥
  elsewhere i j = both_ways (lives (L n) l) out (subst (λ x. lives (L n) x ≡ true) j (subst (λ m. lives (L m) y.layer ≡ true) i live))

  apart : (n == y.path && same_layer l y.layer) ≡ false
  apart =
      false_from_ne_true _
      (λ h. let c = and_parts (n == y.path) (same_layer l y.layer) h in
      elsewhere (sym (eqb-true n y.path c.0)) (sym (same_layer-true l y.layer c.1)))

  abbrev end_rows : Term → List Equation
  end_rows t = map (λ i. record { wire = End y.path y.layer i; formula = end_formula y.scope t y.path y.layer i }) (listed (instance_codes t y.layer))

  go_status : (t : Term) → list_any (λ e. same_wire (Go n l) e.wire) (instance_status all t y.path y.layer) ≡ false
  go_status Nothing = refl
  go_status _ = refl

  own_status : (t : Term) → list_any (λ e. same_wire (StatusOf n l) e.wire) (instance_status all t y.path y.layer) ≡ false
  own_status (Local s p) = ap (λ b. b || false) apart
  own_status _ = refl

  go_out : list_any (λ e. same_wire (Go n l) e.wire) (instance_equations all y) ≡ false
  go_out =
      ap (λ b. b || list_any (λ e. same_wire (Go n l) e.wire) (instance_status all y.statement y.path y.layer ++ end_rows y.statement)) apart
      ∙ list_any-append (λ e. same_wire (Go n l) e.wire) (instance_status all y.statement y.path y.layer) (end_rows y.statement)
      ∙ ap (λ b. b || list_any (λ e. same_wire (Go n l) e.wire) (end_rows y.statement)) (go_status y.statement)
      ∙ any_listed_none (λ e. same_wire (Go n l) e.wire)
      (λ i. record { wire = End y.path y.layer i; formula = end_formula y.scope y.statement y.path y.layer i })
      (instance_codes y.statement y.layer) (λ i a. refl)

  status_out : list_any (λ e. same_wire (StatusOf n l) e.wire) (instance_equations all y) ≡ false
  status_out =
      list_any-append (λ e. same_wire (StatusOf n l) e.wire) (instance_status all y.statement y.path y.layer) (end_rows y.statement)
      ∙ ap (λ b. b || list_any (λ e. same_wire (StatusOf n l) e.wire) (end_rows y.statement)) (own_status y.statement)
      ∙ any_listed_none (λ e. same_wire (StatusOf n l) e.wire)
      (λ i. record { wire = End y.path y.layer i; formula = end_formula y.scope y.statement y.path y.layer i })
      (instance_codes y.statement y.layer) (λ i a. refl)

  end_out : (k : ℕ) → list_any (λ e. same_wire (End n l k) e.wire) (instance_equations all y) ≡ false
  end_out k = dead_in all n l k y (λ i j. absurd (elsewhere i j))

-- ---- a program's equations

module _ (inputs outs given_count : ℕ) (body : Term) where
  abbrev pub B0 : Scope
  B0 = program_scope inputs (inputs + outs)

  abbrev pub all : List Spot
  all = body_spots (body_layers body) B0 body

  abbrev pub rows : List Equation
  rows = equations given_count (range_with_len inputs outs) all

  none_given : (w : Wire) → ((o : ℕ) → same_wire w (output_equation given_count all o).wire ≡ false) →
      Every (λ y. list_any (λ e. same_wire w e.wire) (instance_equations all y) ≡ false) all → list_any (λ e. same_wire w e.wire) rows ≡ false
  none_given w f h =
      list_any-append (λ e. same_wire w e.wire) (map (output_equation given_count all) (range_with_len inputs outs)) (flat_map (instance_equations all) all)
      ∙ ap (λ b. b || list_any (λ e. same_wire w e.wire) (flat_map (instance_equations all) all))
      (any_map_none (λ e. same_wire w e.wire) (output_equation given_count all) (range_with_len inputs outs) f)
      ∙ any_flat_none (λ e. same_wire w e.wire) (instance_equations all) all h

  all_lived : Every (Lived (body_layers body)) all
  all_lived = lived (body_layers body) B0 body_entry body 0

  abbrev pub Off : Statuses → Type 0
  Off U = (w : Wire) → list_any (λ e. same_wire w e.wire) rows ≡ false → U w ≡ Minus

  pub off_layers : (U : Statuses) → Off U → OffLayers (body_layers body) U
  off_layers U o = record {
    off = λ m l h. (
      o (Go m l) (none_given (Go m l) (λ x. refl) (every_from _ _ all (λ y v. go_out all (body_layers body) m l h y v) all_lived)),
      o (StatusOf m l) (none_given (StatusOf m l) (λ x. refl) (every_from _ _ all (λ y v. status_out all (body_layers body) m l h y v) all_lived)),
      (λ k. o (End m l k) (none_given (End m l k) (λ x. refl) (every_from _ _ all (λ y v. end_out all (body_layers body) m l h y v k) all_lived))),
    );
  }

  pub looks : HasExitCodes body → Every (Looked (body_layers body) (statement_at body 0)) all
  looks k = looked (body_layers body) (statement_at body 0) B0 body_entry body 0 k (record { each = λ m l u. refl })

  -- a code that a statement does not have in a layer ends nothing
  pub dead_end : HasExitCodes body → (U : Statuses) → Off U → (n : ℕ) (l : Layer) (k : ℕ) → instance_codes (statement_at body 0 n) l k ≡ false →
      U (End n l k) ≡ Minus
  dead_end b U o n l k e =
      o (End n l k)
      (none_given (End n l k) (λ x. refl)
      (every_from _ _ all
      (λ y h. dead_in all n l k y
      (λ i j.
      subst (λ x. instance_codes y.statement x k ≡ false) (sym j)
      (subst (λ t. instance_codes t l k ≡ false) (ap (statement_at body 0) (sym i) ∙ h) e)))
      (looks b)))

  module _ (q : State) (given : Values) (W U : Statuses) where
    abbrev pub RowMet : Equation → Type 0
    RowMet e = W e.wire ≡ val body q given U e.formula

    pub record Alive (x : Spot) : Type 0 where
      pub met : Every RowMet (instance_equations all x)
      pub gone : (k : ℕ) → instance_codes x.statement x.layer k ≡ false → (W (End x.path x.layer k) ≡ Minus) × (U (End x.path x.layer k) ≡ Minus)

    ends_met : (B : Scope) (t : Term) (n : ℕ) (l : Layer) → HasExitCodes t →
        Every RowMet (map (λ k. record { wire = End n l k; formula = end_formula B t n l k }) (listed (instance_codes t l))) →
        ((k : ℕ) → instance_codes t l k ≡ false → W (End n l k) ≡ Minus) → (k : ℕ) →
        W (End n l k) ≡ where_met (instance_codes t l k) (val body q given U (end_formula B t n l k))
    ends_met B t n l b h d k =
        cond_both (instance_codes t l k) true false (λ c. W (End n l k) ≡ where_met (instance_codes t l k) (val body q given U (end_formula B t n l k)))
        (λ e.
        every_listed (λ j. W (End n l j) ≡ val body q given U (end_formula B t n l j)) (instance_codes t l)
        (every_map RowMet (λ j. record { wire = End n l j; formula = end_formula B t n l j }) (listed (instance_codes t l)) h) k
        (codes_below-kernel t l k b e) e
        ∙ ap (λ c. where_met c (val body q given U (end_formula B t n l k))) (sym e))
        (λ e. d k e ∙ ap (λ c. where_met c (val body q given U (end_formula B t n l k))) (sym e))

    next_at_spot : (x : Spot) → HasExitCodes x.statement → Alive x → Next body q given W U all x
    next_at_spot x b a = go x.scope x.statement x.path x.layer b a.met (λ k e. (a.gone k e).0) (λ k e. (a.gone k e).1)
      where
        go : (B : Scope) (t : Term) (n : ℕ) (l : Layer) → HasExitCodes t →
            Every RowMet (record { wire = Go n l; formula = x.entry } ∷ (instance_status all t n l
            ++ map (λ k. record { wire = End n l k; formula = end_formula B t n l k }) (listed (instance_codes t l)))) →
            ((k : ℕ) → instance_codes t l k ≡ false → W (End n l k) ≡ Minus) → ((k : ℕ) → instance_codes t l k ≡ false → U (End n l k) ≡ Minus) →
            Next body q given W U all (record { statement = t; path = n; layer = l; scope = B; entry = x.entry })
        go B (Local s p) n l b h d u = record {
          go = h.0;
          ends = ends_met B (Local s p) n l b h.1.1 d;
          status = h.1.0 ∙ any_meaning body q given U (emissions (StatusOf n l) all);
          dead = u;
        }
        go B (Awake e p) n l b h d u = absurd b
        go B t n l b h d u = record { go = h.0; ends = ends_met B t n l b h.1 d; status = tt; dead = u }

    -- what the rows of all instances give, by layers
    pub each_next : HasExitCodes body → Every RowMet rows → Off W → Off U →
        (has_code (resumed_codes body) ≡ true → EachResumed (Next body q given W U all) B0 body_entry body 0)
        × EachStarted (Next body q given W U all) B0 body_entry body 0 (Started 0)
    each_next k met offW offU =
        let instances = every_flat_map RowMet (instance_equations all) all
        (every_right RowMet (map (output_equation given_count all) (range_with_len inputs outs)) (flat_map (instance_equations all) all) met) in
        let alive = every_from _ Alive all
        (λ x p. record {
          met = p.0;
          gone = λ j e.
              let f = subst (λ t. instance_codes t x.layer j ≡ false) (sym p.1) e in
              (dead_end k W offW x.path x.layer j f, dead_end k U offU x.path x.layer j f);
        })
        (every_both _ _ all instances (looks k)) in
        let l = layered (body_layers body) Alive (Next body q given W U all) next_at_spot (body_liveness body) B0 body_entry body 0 k
        (body_agrees body) alive in
        (l.0, l.1 0 (inl refl))

    pub output_rows : Every RowMet rows → Every RowMet (map (output_equation given_count all) (range_with_len inputs outs))
    output_rows met = every_left RowMet (map (output_equation given_count all) (range_with_len inputs outs)) (flat_map (instance_equations all) all) met
