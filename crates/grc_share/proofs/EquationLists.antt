-- The equations of shared wires, wire by wire.
use Rattle.std.proofs.Common.{◌≡◌, ℕ, suc, zero, ◌<◌, cond, List, [], ◌∷◌, length, map, get_or, refl, sym, ap, ◌∙◌}
use Rattle.std.proofs.Common.{⊎_elim, arith}
use Rattle.std.specs.Prelude.{All, IsTrue, zip}
use Rattle.std.proofs.lemmas.Bool.{cases_Bool}
use Rattle.std.proofs.lemmas.List.{get_or-map, get_or_default, length-map}
use Rattle.est_kernel.specs.Plain.{Program, program_of}
use Rattle.grc_graph.specs.declared.formulas.Formula as stored
use Rattle.grc_graph.specs.declared.formulas.Formula.TheVariants as formulas
use Rattle.grc_graph.specs.declared.graph.Graph.{Graph}
use Rattle.grc_graph.specs.BuiltGraphs.{IsGraphOf}
use Rattle.grc_graph.specs.Equations.{Equation}
use Rattle.grc_graph.specs.GraphRuns.{graph_of}
use Rattle.grc_graph.specs.GraphShapes.{formula_fits}
use Rattle.grc_graph.specs.Layers.{Resumed}
use Rattle.grc_graph.specs.PlainGraphs.{equations_of, formula_of, instances_of, names_of, wire_at, wire_of}
use Rattle.grc_graph.specs.Wires.{Wire, Go, same_wire}
use Rattle.grc_graph.specs.WireTables.{IsNumberOf}
use Rattle.grc_graph.proofs.Exports.{same_wire-self, same_wire-true}
use Rattle.grc_share.specs.Renamings.{AreSharedFormulas, formula_at, formula_in}
use Rattle.grc_share.specs.SharedGraphs.{formula_for, shared_equations, shared_instances}
use Rattle.grc_share.specs.SharedWires.{shared_wires}
use Rattle.grc_share.proofs.SharedNumbering.{graph-apart}

-- lists of pairs
zip-length : {X Y : Type 0} (xs : List X) (ys : List Y) → length xs ≡ length ys → length (zip xs ys) ≡ length xs
zip-length [] [] e = refl
zip-length [] (b ∷ bs) e = absurd (omega (arith, e))
zip-length (a ∷ rest) [] e = absurd (omega (arith, e))
zip-length (a ∷ rest) (b ∷ bs) e = ap (λ k. suc k) (zip-length rest bs (omega (arith, e)))

zip-read : {X Y : Type 0} (xs : List X) (ys : List Y) (i : ℕ) (d : X) (e : Y) → length xs ≡ length ys → i < length xs
    → get_or (zip xs ys) i (d, e) ≡ (get_or xs i d, get_or ys i e)
zip-read [] ys i d e h l = absurd (omega arith)
zip-read (a ∷ rest) [] i d e h l = absurd (omega (arith, h))
zip-read (a ∷ rest) (b ∷ bs) zero d e h l = refl
zip-read (a ∷ rest) (b ∷ bs) (suc i) d e h l = zip-read rest bs i d e (omega (arith, h)) (omega (arith, l))

-- ---- the equation for a wire

-- no two equations are of one wire
abbrev EquationsDiffer : List Equation → Type 0
EquationsDiffer es = (i j : ℕ) (d : Equation) → i < length es → j < length es → (get_or es i d).wire ≡ (get_or es j d).wire → i ≡ j

pub formula_for-at : (es : List Equation) (k : ℕ) (d : Equation) → k < length es → EquationsDiffer es
    → formula_for es (get_or es k d).wire ≡ (get_or es k d).formula
formula_for-at [] k d l h = absurd (omega arith)
formula_for-at (e ∷ es) zero d l h = ap (λ b. cond b e.formula (formula_for es e.wire)) (same_wire-self e.wire)
formula_for-at (e ∷ es) (suc k) d l h =
    ap (λ b. cond b e.formula (formula_for es (get_or es k d).wire))
    (⊎_elim (λ q. absurd (none (h 0 (suc k) d (omega arith) (omega (arith, l)) (same_wire-true e.wire (get_or es k d).wire q)))) (λ q. q)
    (cases_Bool (same_wire e.wire (get_or es k d).wire)))
    ∙ formula_for-at es k d (omega (arith, l)) (λ i j c a b q. less i j (h (suc i) (suc j) c (omega (arith, a)) (omega (arith, b)) q))
  where
    none : 0 ≡ suc k → ⊥
    none e = omega (arith, e)

    less : (i j : ℕ) → suc i ≡ suc j → i ≡ j
    less i j e = omega (arith, e)

module _ (g : Graph) (built : IsGraphOf g (program_of g.program)) where
  -- the equations of the graph
  equations : (graph_of (program_of g.program)).equations ≡ equations_of (instances_of g) (names_of g) g.equations.items
  equations = sym (ap (λ x. x.equations) built.graph)

  each : length (names_of g) ≡ length g.equations.items
  each = length-map g.wires.items (wire_of (instances_of g)) ∙ sym g.indices.equations_all

  pub equations-each : length (graph_of (program_of g.program)).equations ≡ length g.wires.items
  equations-each =
      ap length equations ∙ length-map (zip (names_of g) g.equations.items) _ ∙ zip-length (names_of g) g.equations.items each
      ∙ length-map g.wires.items (wire_of (instances_of g))

  pub equation-at : (w : ℕ) (d : Equation) → w < length g.wires.items
      → get_or (graph_of (program_of g.program)).equations w d ≡ record { wire = wire_at (names_of g) w; formula = formula_at g w }
  equation-at w d low =
      let inside : w < length (names_of g) = omega (arith, low, length-map g.wires.items (wire_of (instances_of g))) in
      ap (λ es. get_or es w d) equations
      ∙ get_or-map (λ (e : Wire × stored.Formula). record { wire = e.0; formula = formula_of (instances_of g) (names_of g) e.1 })
      (zip (names_of g) g.equations.items) w (wire_at (names_of g) w, formulas.Boot) d
      (omega (arith, inside, zip-length (names_of g) g.equations.items each))
      ∙ ap (λ (e : Wire × stored.Formula). record { wire = e.0; formula = formula_of (instances_of g) (names_of g) e.1 })
      (zip-read (names_of g) g.equations.items w (wire_at (names_of g) w) formulas.Boot each inside
      ∙ λ i. (get_or_default (names_of g) w (wire_at (names_of g) w) (Go 0 Resumed) inside i, get_or g.equations.items w formulas.Boot))

  differ : EquationsDiffer (graph_of (program_of g.program)).equations
  differ i j d l m e =
      let a : i < length g.wires.items = omega (arith, l, equations-each) in
      let b : j < length g.wires.items = omega (arith, m, equations-each) in
      graph-apart g built i j (omega (arith, a, length-map g.wires.items (wire_of (instances_of g))))
      (omega (arith, b, length-map g.wires.items (wire_of (instances_of g))))
      (sym (ap (λ x. x.wire) (equation-at i d a)) ∙ e ∙ ap (λ x. x.wire) (equation-at j d b))

  -- the formula of a wire by its number
  pub formula-found : (v : ℕ) (u : Wire) → IsNumberOf (names_of g) v u → formula_at g v ≡ formula_for (graph_of (program_of g.program)).equations u
  formula-found v u f =
      let es = (graph_of (program_of g.program)).equations in
      let d : Equation = record { wire = Go 0 Resumed; formula = formula_at g v } in
      let low : v < length g.wires.items = omega (arith, f.within, length-map g.wires.items (wire_of (instances_of g))) in
      let own = equation-at v d low in
      sym (ap (λ x. x.formula) own)
      ∙ sym (formula_for-at es v d (omega (arith, low, equations-each)) differ)
      ∙ ap (formula_for es) (ap (λ x. x.wire) own ∙ f.same _)

-- ---- the equations of the shared wires

pub equations-shared : (p : Program) (list : List stored.Formula) → AreSharedFormulas p list
    → equations_of (shared_instances p) (shared_wires p) list ≡ shared_equations p
equations-shared p list are = by (shared_wires p) list (sym are.each) (λ k d l. (are.stand k d l).same)
  where
    by : (ws : List Wire) (fs : List stored.Formula) → length ws ≡ length fs
        → ((k : ℕ) (d : stored.Formula) → k < length fs → formula_of (shared_instances p) (shared_wires p) (get_or fs k d) ≡ formula_in p (wire_at ws k))
        → map {B = Equation} (λ (e : Wire × stored.Formula). record { wire = e.0; formula = formula_of (shared_instances p) (shared_wires p) e.1 }) (zip ws fs)
        ≡ map {B = Equation} (λ (w : Wire). record { wire = w; formula = formula_in p w }) ws
    by [] [] e h = refl
    by [] (f ∷ fs) e h = absurd (omega (arith, e))
    by (w ∷ ws) [] e h = absurd (omega (arith, e))
    by (w ∷ ws) (f ∷ fs) e h =
        let rest = by ws fs (omega (arith, e)) (λ k d l. h (suc k) d (omega (arith, l))) in
        λ i. record { wire = w; formula = h 0 f (omega arith) i } ∷ rest i

pub equations-fit : (p : Program) (list : List stored.Formula) → AreSharedFormulas p list
    → All (λ f. IsTrue (formula_fits (length (shared_instances p)) (length (shared_wires p)) f)) list
equations-fit p list are = λ k d l. (are.stand k d l).fits
