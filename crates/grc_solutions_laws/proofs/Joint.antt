-- From a solution of a program's graph to the equations that the wires of each instance meet.
use Rattle.std.proofs.Common.{◌≡◌, ℕ, zero, suc, ◌+◌, ◌<◌, Bool, true, false, ◌&&◌, ◌||◌, ◌==◌, cond, List, [], ◌∷◌, ◌++◌, map, refl, sym, ap, ◌∙◌, subst}
use Rattle.std.specs.List.{list_any, flat_map, range_with_len, All}
use Rattle.std.proofs.lemmas.List.Folds.{list_any-append}
use Rattle.std.proofs.lemmas.Bool.{and_parts, eqb-true, cond_both, false≢true}
use Rattle.base_facts.proofs.Lists.{Every}
use Rattle.est_kernel.specs.Terms.{Term, Nothing, Local, Awake}
use Rattle.est_kernel.specs.Reactions.{is_given}
use Rattle.grc_graph.specs.Layers.{Layer, Resumed, Started, same_layer, body_layers}
use Rattle.grc_graph.specs.Scopes.{Scope, program_scope}
use Rattle.grc_graph.specs.Wires.{Wire, Go, StatusOf, End, same_wire, listed, codes_below, instance_codes}
use Rattle.grc_graph.specs.Formulas.{Formula, Value}
use Rattle.grc_graph.specs.Spots.{Spot, body_spots, body_entry}
use Rattle.grc_graph.specs.Equations.{Equation, equations, end_formula, emits_on, emissions, instance_status, instance_equations, output_equation}
use Rattle.grc_graph.specs.Walk.{Values, State}
use Rattle.grc_graph.specs.Selected.{HasExitCodes}
use Rattle.grc_graph.specs.Readings.{Valuation}
use Rattle.grc_solutions.proofs.Exports.{every_of_all, every_both, every_right, every_map, every_flat_map, every_listed, every_from, statement_at, Looked}
use Rattle.grc_solutions.proofs.Exports.{looked}
use Rattle.grc_graph.proofs.Exports.{started_below, resumed_below, same_layer-true}
use Rattle.grc_solutions_laws.proofs.Emissions.{emitted}
use Rattle.grc_solutions_laws.proofs.EndForms.{val, any_meaning}
use Rattle.grc_solutions_laws.proofs.Meets.{Met}

-- lists
pub any_map_none : {A B : Type 0} (F : B → Bool) (g : A → B) (xs : List A) → ((x : A) → F (g x) ≡ false) → list_any F (map g xs) ≡ false
any_map_none F g [] h = refl
any_map_none F g (x ∷ xs) h = ap (λ b. b || list_any F (map g xs)) (h x) ∙ any_map_none F g xs h

pub any_flat_none : {A B : Type 0} (F : B → Bool) (g : A → List B) (xs : List A) → Every (λ x. list_any F (g x) ≡ false) xs → list_any F (flat_map g xs) ≡ false
any_flat_none F g [] h = refl
any_flat_none F g (x ∷ xs) h =
    list_any-append F (g x) (flat_map g xs) ∙ ap (λ b. b || list_any F (flat_map g xs)) h.0 ∙ any_flat_none F g xs h.1

or_joined : (a b c : Bool) → (a || b) ≡ false → (b ≡ false → c ≡ false) → (a || c) ≡ false
or_joined true b c e f = e
or_joined false b c e f = f e

any_joined : {B : Type 0} (F : B → Bool) (g : ℕ → B) (xs ys : List ℕ) → list_any F (map g xs) ≡ false → list_any F (map g ys) ≡ false →
    list_any F (map g (xs ++ ys)) ≡ false
any_joined F g [] ys e f = f
any_joined F g (x ∷ xs) ys e f = or_joined (F (g x)) (list_any F (map g xs)) (list_any F (map g (xs ++ ys))) e (λ i. any_joined F g xs ys i f)

any_below_none : {B : Type 0} (F : B → Bool) (g : ℕ → B) (n : ℕ) (A : ℕ → Bool) → ((i : ℕ) → A i ≡ true → F (g i) ≡ false) →
    list_any F (map g (codes_below n A)) ≡ false
unfolding codes_below
any_below_none F g zero A h = refl
any_below_none F g (suc n) A h =
    any_joined F g (codes_below n A) (cond (A n) (n ∷ []) []) (any_below_none F g n A h)
    (cond_both (A n) (n ∷ []) [] (λ l. list_any F (map g l) ≡ false) (λ e. ap (λ b. b || false) (h n e)) (λ e. refl))

pub any_listed_none : {B : Type 0} (F : B → Bool) (g : ℕ → B) (A : ℕ → Bool) → ((i : ℕ) → A i ≡ true → F (g i) ≡ false) → list_any F (map g (listed A)) ≡ false
unfolding listed
any_listed_none F g A h = any_below_none F g 64 A h

-- the emissions on a wire
pub emissions_any : (B : Scope) (body : Term) (q : State) (given : Values) (V : Valuation) (w : Wire) (xs : List Spot) →
    list_any (val B body q given V) (emissions w xs) ≡ emitted V w xs
emissions_any B body q given V w [] = refl
emissions_any B body q given V w (x ∷ xs) =
    go (emits_on w x.statement x.scope x.layer) (emissions_any B body q given V w xs)
  where
    go : (d : Bool) → list_any (val B body q given V) (emissions w xs) ≡ emitted V w xs →
        list_any (val B body q given V) (cond d (Value (Go x.path x.layer) ∷ emissions w xs) (emissions w xs)) ≡
        ((d && V (Go x.path x.layer)) || emitted V w xs)
    go true e = ap (λ b. V (Go x.path x.layer) || b) e
    go false e = e

-- the equations of an instance met, and its dead ends false
module _ (B0 : Scope) (body : Term) (q : State) (given : Values) (V : Valuation) (all : List Spot) where
  abbrev pub MetRow : Equation → Type 0
  MetRow e = V e.wire ≡ val B0 body q given V e.formula

  pub record Alive (x : Spot) : Type 0 where
    pub rows : Every MetRow (instance_equations all x)
    pub dead : (k : ℕ) → instance_codes x.statement x.layer k ≡ false → V (End x.path x.layer k) ≡ false

  ends_met : (B : Scope) (t : Term) (n : ℕ) (l : Layer) → HasExitCodes t →
      Every MetRow (map (λ k. record { wire = End n l k; formula = end_formula B t n l k }) (listed (instance_codes t l))) →
      ((k : ℕ) → instance_codes t l k ≡ false → V (End n l k) ≡ false) → (k : ℕ) →
      V (End n l k) ≡ (instance_codes t l k && val B0 body q given V (end_formula B t n l k))
  ends_met B t n l b h d k =
      cond_both (instance_codes t l k) true false (λ c. V (End n l k) ≡ (instance_codes t l k && val B0 body q given V (end_formula B t n l k)))
      (λ e.
      every_listed (λ j. V (End n l j) ≡ val B0 body q given V (end_formula B t n l j)) (instance_codes t l)
      (every_map MetRow (λ j. record { wire = End n l j; formula = end_formula B t n l j }) (listed (instance_codes t l)) h) k (below l e) e
      ∙ ap (λ c. c && val B0 body q given V (end_formula B t n l k)) (sym e))
      (λ e. d k e ∙ ap (λ c. c && val B0 body q given V (end_formula B t n l k)) (sym e))
    where
      below : (j : Layer) → instance_codes t j k ≡ true → k < 64
      below Resumed e = resumed_below t b k e
      below (Started r) e = started_below t b k e

  pub met_at : (x : Spot) → HasExitCodes x.statement → Alive x → Met B0 body q given V all x
  met_at x b a = go x.scope x.statement x.path x.layer b a.rows a.dead
    where
      go : (B : Scope) (t : Term) (n : ℕ) (l : Layer) → HasExitCodes t →
          Every MetRow (record { wire = Go n l; formula = x.entry } ∷ (instance_status all t n l
          ++ map (λ k. record { wire = End n l k; formula = end_formula B t n l k }) (listed (instance_codes t l)))) →
          ((k : ℕ) → instance_codes t l k ≡ false → V (End n l k) ≡ false) →
          Met B0 body q given V all (record { statement = t; path = n; layer = l; scope = B; entry = x.entry })
      go B (Local s p) n l b h d =
          let rest = h.1 in
          record {
            go = h.0;
            ends = ends_met B (Local s p) n l b rest.1 d;
            status = rest.0 ∙ any_meaning B0 body q given V (emissions (StatusOf n l) all) ∙ emissions_any B0 body q given V (StatusOf n l) all;
          }
      go B (Awake e p) n l b h d = absurd b
      go B t n l b h d = record { go = h.0; ends = ends_met B t n l b h.1 d; status = tt }

-- a wire that an instance does not have is not listed
pub dead_in : (all : List Spot) (n : ℕ) (l : Layer) (k : ℕ) (y : Spot) → (y.path ≡ n → y.layer ≡ l → instance_codes y.statement y.layer k ≡ false) →
    list_any (λ e. same_wire (End n l k) e.wire) (instance_equations all y) ≡ false
dead_in all n l k y h = go y.statement (λ i j. h i j)
  where
    same : Equation → Bool
    same e = same_wire (End n l k) e.wire

    end_row : Term → ℕ → Equation
    end_row t i = record { wire = End y.path y.layer i; formula = end_formula y.scope t y.path y.layer i }

    end_rows : Term → List Equation
    end_rows t = map (end_row t) (listed (instance_codes t y.layer))

    own_rows : Term → List Equation
    own_rows t = record { wire = Go y.path y.layer; formula = y.entry } ∷ (instance_status all t y.path y.layer ++ end_rows t)

    status_none : (t : Term) → list_any (λ e. same_wire (End n l k) e.wire) (instance_status all t y.path y.layer) ≡ false
    status_none Nothing = refl
    status_none _ = refl

    go : (t : Term) → (y.path ≡ n → y.layer ≡ l → instance_codes t y.layer k ≡ false) → list_any same (own_rows t) ≡ false
    go t f =
        list_any-append same (instance_status all t y.path y.layer) (end_rows t)
        ∙ ap (λ b. b || list_any same (end_rows t)) (status_none t)
        ∙ any_listed_none same (end_row t) (instance_codes t y.layer)
        (λ i a.
        cond_both (n == y.path && (same_layer l y.layer && k == i)) true false (λ c. (n == y.path && (same_layer l y.layer && k == i)) ≡ false)
        (λ c.
        let c1 = and_parts (n == y.path) (same_layer l y.layer && k == i) c in
        let c2 = and_parts (same_layer l y.layer) (k == i) c1.1 in
        let z = f (sym (eqb-true n y.path c1.0)) (sym (same_layer-true l y.layer c2.0)) in
        absurd (false≢true (sym z ∙ subst (λ j. instance_codes t y.layer j ≡ true) (sym (eqb-true k i c2.1)) a)))
        (λ c. c))

-- what a solution of a program's graph tells
module _ (inputs outs given_count : ℕ) (body : Term) (q : State) (event : List Bool) (V : Valuation) where
  abbrev B0 : Scope
  B0 = program_scope inputs (inputs + outs)

  abbrev all : List Spot
  all = body_spots (body_layers body) B0 body

  abbrev rows : List Equation
  rows = equations given_count (range_with_len inputs outs) all

  abbrev value : Formula → Bool
  value a = val B0 body q (is_given event) V a

  looks : HasExitCodes body → Every (Looked (body_layers body) (statement_at body 0)) all
  looks k = looked (body_layers body) (statement_at body 0) B0 body_entry body 0 k (record { each = λ m l u. refl })

  -- a code that a statement does not have in a layer ends nothing
  pub dead_wire : HasExitCodes body → ((w : Wire) → list_any (λ e. same_wire w e.wire) rows ≡ false → V w ≡ false) → (n : ℕ) (l : Layer) (k : ℕ) →
      instance_codes (statement_at body 0 n) l k ≡ false → V (End n l k) ≡ false
  dead_wire b others n l k e =
      others (End n l k)
      (list_any-append (λ r. same_wire (End n l k) r.wire) (map (output_equation given_count all) (range_with_len inputs outs))
      (flat_map (instance_equations all) all)
      ∙ ap (λ c. c || list_any (λ r. same_wire (End n l k) r.wire) (flat_map (instance_equations all) all))
      (any_map_none (λ r. same_wire (End n l k) r.wire) (output_equation given_count all) (range_with_len inputs outs) (λ o. refl))
      ∙ any_flat_none (λ r. same_wire (End n l k) r.wire) (instance_equations all) all
      (every_from _ _ all
      (λ y h. dead_in all n l k y
      (λ i j.
      subst (λ x. instance_codes y.statement x k ≡ false) (sym j)
      (subst (λ t. instance_codes t l k ≡ false) (ap (statement_at body 0) (sym i) ∙ h) e)))
      (looks b)))

  pub met_spots : (k : HasExitCodes body) → All (λ e. V e.wire ≡ value e.formula) rows →
      ((w : Wire) → list_any (λ e. same_wire w e.wire) rows ≡ false → V w ≡ false) → Every (Alive B0 body q (is_given event) V all) all
  met_spots k met others =
      let every = every_of_all (λ e. V e.wire ≡ value e.formula) rows met in
      let rows2 = every_flat_map (λ e. V e.wire ≡ value e.formula) (instance_equations all) all
      (every_right (λ e. V e.wire ≡ value e.formula) (map (output_equation given_count all) (range_with_len inputs outs))
      (flat_map (instance_equations all) all) every) in
      every_from _ _ all
      (λ x p.
      record {
        rows = p.0;
        dead = λ j e. dead_wire k others x.path x.layer j (subst (λ t. instance_codes t x.layer j ≡ false) (sym p.1) e);
      })
      (every_both _ _ all rows2 (looks k))
