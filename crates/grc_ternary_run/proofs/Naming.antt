-- The least solution of a graph's system, by the names of its wires, is the least solution of the graph.
use Rattle.std.proofs.Common.{◌≡◌, ℕ, zero, suc, ◌+◌, ◌<◌, ◌≤◌, Bool, true, false, ◌||◌, nat_lt, List, [], ◌∷◌, length}
use Rattle.std.proofs.Common.{map, slice_index_or, IsTrue, All, refl, sym, ap, ◌∙◌, subst, inl, inr, arith, drop, length-drop}
use Rattle.std.specs.List.{list_any, list_all}
use Rattle.std.proofs.lemmas.Bool.{and_parts, or_parts, or_from, cond_both, cases_Bool, cond-true, cond-false, false≢true, ltb-true}
use Rattle.std.proofs.lemmas.List.{get_or-map, length-map}
use Rattle.std.proofs.lemmas.List.Sums.{prefix_len-le-length}
use Rattle.base_types.specs.Codes.{upto}
use Rattle.base_types.specs.declared.indices.WireId.{WireId}
use Rattle.est_kernel.specs.Laws.{IsBelow}
use Rattle.est_kernel.specs.Reactions as reactions
use Rattle.est_kernel.specs.Statuses.{Status, Plus, Minus, Unknown, known, opposite, conjunction, disjunction}
use Rattle.grc_graph.specs.declared.formulas.Formula.{Formula}
use Rattle.grc_graph.specs.declared.formulas.Formula.TheVariants as formulas
use Rattle.grc_graph.specs.declared.graph.Graph.{Graph}
use Rattle.grc_graph.specs.Equations.{Equation}
use Rattle.grc_graph.specs.Formulas as plain
use Rattle.grc_graph.specs.GraphShapes.{formula_fits}
use Rattle.grc_graph.specs.PlainGraphs.{formula_of, instance_at, instances_of, names_of, plain_graph, wire_at}
use Rattle.grc_graph.specs.Readings.{Valuation}
use Rattle.grc_graph.specs.Walk.{State}
use Rattle.grc_graph.specs.Wires.{Wire, End, Go, same_wire}
use Rattle.grc_graph.specs.Layers.{Resumed}
use Rattle.grc_solutions.proofs.Exports.{is_given, unnamed}
use Rattle.grc_evaluate.specs.Evaluations.{IsKnown}
use Rattle.grc_evaluate.proofs.Exports.{plain-formulas, plain-wires}
use Rattle.grc_solutions.specs.GraphWires.{Differ, equation_wires}
use Rattle.grc_ternary.specs.LeastSolutions.{IsLeast, Statuses, formula_status, is_plus, kleene_interpretation, upto_status}
use Rattle.grc_formulas.specs.declared.table.Words.{Words}
use Rattle.grc_formulas.specs.Occasions.{Occasion}
use Rattle.grc_formulas.specs.WordLaws.{AreWordsOf, any_from, ends_upto, first_end, is_end_upto}
use Rattle.grc_ternary_gates.specs.Tables.{IsLeastOf}
use Rattle.grc_graph.proofs.Exports.{same_wire-back, same_wire-self, same_wire-true, length-names}
use Rattle.grc_ternary_run.specs.declared.numbers.Counts.{Counts}
use Rattle.grc_ternary_run.specs.Chains.{any_status}
use Rattle.grc_ternary_run.specs.Instants.{AreSources, Instant, status_named}
use Rattle.grc_ternary_run.specs.Meanings.{any_meaning, meaning_in}
use Rattle.grc_ternary_run.specs.Systems.{equation_at}

-- ---- two truth values tell a status

abbrev maybe : Status → Bool
maybe Plus = true
maybe Minus = false
maybe Unknown = true

two-rails : (u v : Status) → is_plus u ≡ is_plus v → maybe u ≡ maybe v → u ≡ v
two-rails Plus Plus e f = refl
two-rails Plus Minus e f = absurd (false≢true (sym e))
two-rails Plus Unknown e f = absurd (false≢true (sym e))
two-rails Minus Plus e f = absurd (false≢true e)
two-rails Minus Minus e f = refl
two-rails Minus Unknown e f = absurd (false≢true f)
two-rails Unknown Plus e f = absurd (false≢true e)
two-rails Unknown Minus e f = absurd (false≢true (sym f))
two-rails Unknown Unknown e f = refl

plus-or : (u v : Status) → is_plus (disjunction u v) ≡ (is_plus u || is_plus v)
plus-or Plus v = refl
plus-or Minus v = refl
plus-or Unknown Plus = refl
plus-or Unknown Minus = refl
plus-or Unknown Unknown = refl

maybe-or : (u v : Status) → maybe (disjunction u v) ≡ (maybe u || maybe v)
maybe-or Plus v = refl
maybe-or Minus v = refl
maybe-or Unknown Plus = refl
maybe-or Unknown Minus = refl
maybe-or Unknown Unknown = refl

rail-any : (f : Status → Bool) → f Minus ≡ false → ((u v : Status) → f (disjunction u v) ≡ (f u || f v)) → (T : ℕ → Status) (first count : ℕ)
    → f (any_status T first count) ≡ any_from (λ v. f (T v)) first count
rail-any f none either T first zero = none
rail-any f none either T first (suc count) =
    either (any_status T first count) (T (first + count)) ∙ ap (λ b. b || f (T (first + count))) (rail-any f none either T first count)

rail-upto : (f : Status → Bool) → ((u v : Status) → f (disjunction u v) ≡ (f u || f v)) → (A : ℕ → Status) (k : ℕ)
    → f (upto_status A k) ≡ upto (λ j. f (A j)) k
rail-upto f either A zero = refl
rail-upto f either A (suc k) = either (upto_status A k) (A (suc k)) ∙ ap (λ b. b || f (A (suc k))) (rail-upto f either A k)

-- ---- what a formula means by numbers and by names

-- what is no wire is false
abbrev OffWires : Graph → Statuses → Type 0
OffWires g T = (u : Wire) → list_any (same_wire u) (names_of g) ≡ false → T u ≡ Minus

abbrev numbered : Graph → Statuses → ℕ → Status
numbered g T v = T (wire_at (names_of g) v)

occasion : (g : Graph) → Instant g → Valuation → Occasion g
occasion g t V = record {
  boot = t.boot;
  bits = t.bits;
  event = t.event;
  valuation = V;
  one_per_leaf = t.one_per_leaf;
  one_per_given = t.one_per_given;
  unselected = t.unselected;
}

upto-said : (g : Graph) (w : Words) (t : Instant g) (T : Statuses) (i k : ℕ) → AreWordsOf g w → OffWires g T → i < length g.instances.list.items
    → any_status (numbered g T) (first_end w i) (ends_upto g w i k)
    ≡ upto_status (λ j. T (End (instance_at (instances_of g) i).path (instance_at (instances_of g) i).layer j)) k
unfolding occasion
upto-said g w t T i k a off low =
    let x = instance_at (instances_of g) i in
    let A : ℕ → Status = λ j. T (End x.path x.layer j) in
    let rail = λ (f : Status → Bool) (none : f Minus ≡ false) (either : (u v : Status) → f (disjunction u v) ≡ (f u || f v)).
    rail-any f none either (numbered g T) (first_end w i) (ends_upto g w i k)
    ∙ a.upto (occasion g t (λ u. f (T u))) i k (λ u out. ap f (off u out) ∙ none) low ∙ sym (rail-upto f either A k) in
    two-rails (any_status (numbered g T) (first_end w i) (ends_upto g w i k)) (upto_status A k) (rail is_plus refl plus-or) (rail maybe refl maybe-or)

any-said : (g : Graph) (R : plain.Interpretation Status) (S : List Bool) (vs : List WireId)
    → R.constant false ≡ Minus → R.disjunction ≡ disjunction
    → any_meaning vs S (numbered g R.wire) ≡ plain.meaning R (plain.any_of (map (λ (v : WireId). plain.Value (wire_at (names_of g) v.0)) vs))
any-said g R S [] none either = sym none
any-said g R S (v ∷ []) none either = refl
any-said g R S (v ∷ (u ∷ vs)) none either =
    let rest = any-said g R S (u ∷ vs) none either in
    λ i. (sym either i) (R.wire (wire_at (names_of g) v.0)) (rest i)

pub meaning-said : (g : Graph) (w : Words) (c : Counts) (t : Instant g) (S : List Bool) (q : State) (T : Statuses) (f : Formula)
    → AreWordsOf g w → OffWires g T → AreSources g c q t S
    → IsTrue (formula_fits (length g.instances.list.items) (length g.wires.items) f) → IsKnown ⊥ f
    → meaning_in g w c f S (numbered g T) ≡ formula_status (plain_graph g) q t.event T (formula_of (instances_of g) (names_of g) f)
meaning-said g w c t S q T (formulas.Const b) a off s fits k = refl
meaning-said g w c t S q T formulas.Boot a off s fits k = ap known s.boot
meaning-said g w c t S q T (formulas.Input x) a off s fits k = ap known (s.input x.0)
meaning-said g w c t S q T (formulas.Wire v) a off s fits k = refl
meaning-said g w c t S q T (formulas.Selected p) a off s fits k = ap known (s.selected p.0)
meaning-said g w c t S q T (formulas.Upto i n) a off s fits k =
    upto-said g w t T i.0 n a off (ltb-true i.0 (length g.instances.list.items) fits)
meaning-said g w c t S q T (formulas.Kept i) a off s fits k = absurd k
meaning-said g w c t S q T (formulas.Held i) a off s fits k = absurd k
meaning-said g w c t S q T (formulas.Not' x f) a off s fits k = ap opposite (meaning-said g w c t S q T f a off s fits k)
meaning-said g w c t S q T (formulas.And' x f y h) a off s fits k =
    let p = and_parts (formula_fits (length g.instances.list.items) (length g.wires.items) f) _ fits in
    let m = meaning-said g w c t S q T f a off s p.0 k.0 in
    let n = meaning-said g w c t S q T h a off s p.1 k.1 in
    λ i. conjunction (m i) (n i)
meaning-said g w c t S q T (formulas.Or' x f y h) a off s fits k =
    let p = and_parts (formula_fits (length g.instances.list.items) (length g.wires.items) f) _ fits in
    let m = meaning-said g w c t S q T f a off s p.0 k.0 in
    let n = meaning-said g w c t S q T h a off s p.1 k.1 in
    λ i. disjunction (m i) (n i)
meaning-said g w c t S q T (formulas.AnyOf v) a off s fits k =
    any-said g (kleene_interpretation (plain_graph g).body q (reactions.is_given t.event) T) S v.items refl refl

-- ---- what a formula means depends on the wires that there are

any_status-agrees : (T U : ℕ → Status) (first count bound : ℕ) → first + count ≤ bound → ((v : ℕ) → v < bound → T v ≡ U v)
    → any_status T first count ≡ any_status U first count
any_status-agrees T U first zero bound le same = refl
any_status-agrees T U first (suc count) bound le same =
    let rest = any_status-agrees T U first count bound (omega arith) same in
    let here = same (first + count) (omega arith) in
    λ i. disjunction (rest i) (here i)

any_meaning-agrees : (S : List Bool) (T U : ℕ → Status) (bound : ℕ) (vs : List WireId) → IsTrue (list_all (λ v. nat_lt v.0 bound) vs)
    → ((v : ℕ) → v < bound → T v ≡ U v) → any_meaning vs S T ≡ any_meaning vs S U
any_meaning-agrees S T U bound [] fits same = refl
any_meaning-agrees S T U bound (v ∷ []) fits same = same v.0 (ltb-true v.0 bound (and_parts (nat_lt v.0 bound) true fits).0)
any_meaning-agrees S T U bound (v ∷ (u ∷ vs)) fits same =
    let p = and_parts (nat_lt v.0 bound) (list_all (λ x. nat_lt x.0 bound) (u ∷ vs)) fits in
    let here = same v.0 (ltb-true v.0 bound p.0) in
    let rest = any_meaning-agrees S T U bound (u ∷ vs) p.1 same in
    λ i. disjunction (here i) (rest i)

pub meaning-agrees : (g : Graph) (w : Words) (c : Counts) (S : List Bool) (T U : ℕ → Status) (f : Formula) → AreWordsOf g w
    → IsTrue (formula_fits (length g.instances.list.items) (length g.wires.items) f) → ((v : ℕ) → v < length g.wires.items → T v ≡ U v)
    → meaning_in g w c f S T ≡ meaning_in g w c f S U
meaning-agrees g w c S T U (formulas.Const b) a fits same = refl
meaning-agrees g w c S T U formulas.Boot a fits same = refl
meaning-agrees g w c S T U (formulas.Input x) a fits same = refl
meaning-agrees g w c S T U (formulas.Wire v) a fits same = same v.0 (ltb-true v.0 (length g.wires.items) fits)
meaning-agrees g w c S T U (formulas.Selected p) a fits same = refl
meaning-agrees g w c S T U (formulas.Upto i n) a fits same =
    let first = first_end w i.0 in
    let low = ltb-true i.0 (length g.instances.list.items) fits in
    let each = a.one_per_instance.2 in
    let within : first ≤ length g.wires.items = a.fit.ends i.0 (record { 0 = 0 }) (omega arith) in
    let most = prefix_len-le-length (is_end_upto i.0 n) (drop first g.wires.items) in
    let rest = length-drop first g.wires.items in
    any_status-agrees T U first (ends_upto g w i.0 n) (length g.wires.items) (omega arith) same
meaning-agrees g w c S T U (formulas.Kept i) a fits same = refl
meaning-agrees g w c S T U (formulas.Held i) a fits same = refl
meaning-agrees g w c S T U (formulas.Not' x f) a fits same = ap opposite (meaning-agrees g w c S T U f a fits same)
meaning-agrees g w c S T U (formulas.And' x f y h) a fits same =
    let p = and_parts (formula_fits (length g.instances.list.items) (length g.wires.items) f) _ fits in
    let m = meaning-agrees g w c S T U f a p.0 same in
    let n = meaning-agrees g w c S T U h a p.1 same in
    λ i. conjunction (m i) (n i)
meaning-agrees g w c S T U (formulas.Or' x f y h) a fits same =
    let p = and_parts (formula_fits (length g.instances.list.items) (length g.wires.items) f) _ fits in
    let m = meaning-agrees g w c S T U f a p.0 same in
    let n = meaning-agrees g w c S T U h a p.1 same in
    λ i. disjunction (m i) (n i)
meaning-agrees g w c S T U (formulas.AnyOf v) a fits same = any_meaning-agrees S T U (length g.wires.items) v.items fits same

-- ---- statuses by name

pub named-off : (ws : List Wire) (V : ℕ → Status) (u : Wire) → list_any (same_wire u) ws ≡ false → status_named ws V u ≡ Minus
named-off [] V u h = refl
named-off (w ∷ ws) V u h = elim (cases_Bool (same_wire u w)) [
  | inl here ↦ absurd (false≢true (sym h ∙ ap (λ b. b || list_any (same_wire u) ws) here))
  | inr other ↦
      cond-false (same_wire u w) (V 0) (status_named ws (λ n. V (suc n)) u) other
      ∙ named-off ws (λ n. V (suc n)) u (sym (ap (λ b. b || list_any (same_wire u) ws) other) ∙ h)
]

-- a wire that stands in a list stands at a place of it, and has the status of that place
named-on : (ws : List Wire) (V : ℕ → Status) (u : Wire) → list_any (same_wire u) ws ≡ true
    → (v : ℕ) × (v < length ws) × (wire_at ws v ≡ u) × (status_named ws V u ≡ V v)
named-on [] V u h = absurd (false≢true h)
named-on (w ∷ ws) V u h = elim (cases_Bool (same_wire u w)) [
  | inl here ↦ (0, omega arith, same_wire-back u w here, cond-true (same_wire u w) (V 0) (status_named ws (λ n. V (suc n)) u) here)
  | inr other ↦
      let r = named-on ws (λ n. V (suc n)) u (sym (ap (λ b. b || list_any (same_wire u) ws) other) ∙ h) in
      (suc r.0, omega (arith, r.1), r.2, cond-false (same_wire u w) (V 0) (status_named ws (λ n. V (suc n)) u) other ∙ r.3)
]

pub named-there : (ws : List Wire) (V : ℕ → Status) → Differ ws → (v : ℕ) → v < length ws → status_named ws V (wire_at ws v) ≡ V v
named-there [] V d v l = absurd (omega arith)
named-there (u ∷ us) V d zero l = cond-true (same_wire u u) (V 0) (status_named us (λ n. V (suc n)) u) (same_wire-self u)
named-there (u ∷ us) V d (suc v) l =
    cond_both (same_wire (wire_at us v) u) (V 0) (status_named us (λ n. V (suc n)) (wire_at us v)) (λ x. x ≡ V (suc v))
    (λ e. absurd (d 0 (suc v) (Go 0 Resumed) (omega arith) l (sym (same_wire-true (wire_at us v) u e))))
    (λ e. named-there us (λ n. V (suc n)) (λ i j x h k. d (suc i) (suc j) x (omega arith) (omega arith)) v (omega arith))

-- what is no wire has no equation
no-equation : (es : List Equation) (w : Wire) → list_any (same_wire w) (equation_wires es) ≡ false → is_given es w ≡ false
no-equation [] w h = refl
no-equation (e ∷ es) w h =
    let p = or_parts (same_wire w e.wire) (list_any (same_wire w) (equation_wires es)) h in
    or_from (same_wire w e.wire) (is_given es w) p.0 (no-equation es w p.1)

pub many-equations : (g : Graph) → length (plain_graph g).equations ≡ length g.wires.items
many-equations g =
    sym (length-map (plain_graph g).equations (λ (e : Equation). e.wire)) ∙ ap length (plain-wires g) ∙ length-names g

wire-of-equation : (g : Graph) (k : ℕ) (d : Equation) → k < length (plain_graph g).equations
    → (slice_index_or (plain_graph g).equations k d).wire ≡ wire_at (names_of g) k
wire-of-equation g k d low =
    sym (get_or-map (λ (e : Equation). e.wire) (plain_graph g).equations k d (Go 0 Resumed) low) ∙ ap (λ ws. wire_at ws k) (plain-wires g)

pub formula-of-equation : (g : Graph) (k : ℕ) (d : Equation) → k < length (plain_graph g).equations
    → (slice_index_or (plain_graph g).equations k d).formula ≡ formula_of (instances_of g) (names_of g) (equation_at g k)
formula-of-equation g k d low =
    let all = g.indices.equations_all in
    let many = many-equations g in
    sym (get_or-map (λ (e : Equation). e.formula) (plain_graph g).equations k d plain.Boot low)
    ∙ ap (λ fs. slice_index_or fs k plain.Boot) (plain-formulas g)
    ∙ get_or-map (formula_of (instances_of g) (names_of g)) g.equations.items k (formulas.Const false) plain.Boot (omega arith)

-- the equation of a wire, by numbers and by names
equation-said : (g : Graph) (w : Words) (c : Counts) (t : Instant g) (S : List Bool) (q : State) (T : Statuses) (k : ℕ) (d : Equation)
    → AreWordsOf g w → OffWires g T → AreSources g c q t S → All (λ f. IsKnown ⊥ f) g.equations.items → k < length (plain_graph g).equations
    → meaning_in g w c (equation_at g k) S (numbered g T)
    ≡ formula_status (plain_graph g) q t.event T (slice_index_or (plain_graph g).equations k d).formula
equation-said g w c t S q T k d a off s known_all low =
    let all = g.indices.equations_all in
    let many = many-equations g in
    let under : k < length g.equations.items = omega arith in
    meaning-said g w c t S q T (equation_at g k) a off s (g.indices.equations_fit k (formulas.Const false) under)
    (known_all k (formulas.Const false) under)
    ∙ ap (formula_status (plain_graph g) q t.event T) (sym (formula-of-equation g k d low))

-- The least solution by numbers is that of the graph, by names.
pub least-named : (g : Graph) (w : Words) (c : Counts) (t : Instant g) (S : List Bool) (q : State) (V : ℕ → Status) → AreWordsOf g w
    → Differ (names_of g) → All (λ f. IsKnown ⊥ f) g.equations.items → AreSources g c q t S
    → IsLeastOf (length g.wires.items) (λ v T. meaning_in g w c (equation_at g v) S T) V
    → IsLeast (plain_graph g) q t.event (status_named (names_of g) V)
least-named g w c t S q V a differ known_all s l = record {
  solves = record {
    met = λ k d low.
        let n = length-names g in
        let m = many-equations g in
        let under : k < length g.wires.items = omega arith in
        let fit = g.indices.equations_fit k (formulas.Const false) (let e = g.indices.equations_all in omega arith) in
        ap (status_named (names_of g) V) (wire-of-equation g k d low) ∙ there k under ∙ l.solves k under
        ∙ meaning-agrees g w c S V (numbered g (status_named (names_of g) V)) (equation_at g k) a fit (λ v h. sym (there v h))
        ∙ equation-said g w c t S q (status_named (names_of g) V) k d a off s known_all low;
    others = λ u h. off u (subst (λ ws. list_any (same_wire u) ws ≡ false) (plain-wires g) (unnamed (plain_graph g).equations u h));
  };
  least = λ U solves u.
      let n = length-names g in
      let m = many-equations g in
      let off_all : OffWires g U = λ x h.
      solves.others x (no-equation (plain_graph g).equations x (subst (λ ws. list_any (same_wire x) ws ≡ false) (sym (plain-wires g)) h)) in
      let d : Equation = record { wire = Go 0 Resumed; formula = plain.Boot } in
      let numbers : (v : ℕ) → v < length g.wires.items → numbered g U v ≡ meaning_in g w c (equation_at g v) S (numbered g U) = λ v h.
      let low : v < length (plain_graph g).equations = omega arith in
      ap U (sym (wire-of-equation g v d low)) ∙ solves.met v d low
      ∙ sym (equation-said g w c t S q U v d a off_all s known_all low) in
      elim (cases_Bool (list_any (same_wire u) (names_of g))) [
        | inl on ↦
            let r = named-on (names_of g) V u on in
            let low : r.0 < length g.wires.items = let h = r.1 in omega arith in
            let B : Status → Status → Type 0 = λ x y. IsBelow x y in
            subst (λ x. B x (U u)) (sym r.3) (subst (λ x. B (V r.0) (U x)) r.2 (l.least (numbered g U) numbers r.0 low))
        | inr out ↦
            let B : Status → Status → Type 0 = λ x y. IsBelow x y in
            subst (λ x. B x (U u)) (sym (off u out)) (off_all u out)
      ];
}
  where
    off : OffWires g (status_named (names_of g) V)
    off u h = named-off (names_of g) V u h

    there : (v : ℕ) → v < length g.wires.items → status_named (names_of g) V (wire_at (names_of g) v) ≡ V v
    there v h = named-there (names_of g) V differ v (let n = length-names g in omega arith)
