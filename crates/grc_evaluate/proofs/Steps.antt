-- The wires and the formulas of a graph's equations, and the formulas that an evaluation meets.
use Rattle.std.proofs.Common.{◌≡◌, ℕ, ◌+◌, List, [], ◌∷◌, length, map, refl, ap, arith}
use Rattle.std.specs.List.{zip}
use Rattle.grc_graph.specs.declared.formulas.Formula.{Formula}
use Rattle.grc_graph.specs.declared.formulas.Formula.TheVariants as variants
use Rattle.grc_graph.specs.declared.graph.Graph.{Graph}
use Rattle.grc_graph.specs.Instances.{Instance}
use Rattle.grc_graph.specs.PlainGraphs.{formula_of, instances_of, names_of, plain_graph}
use Rattle.grc_graph.specs.Wires.{Wire}
use Rattle.grc_graph.proofs.Exports.{equations-all}
use Rattle.grc_solutions.specs.GraphWires.{equation_wires}
use Rattle.grc_solutions.specs.NumberedGraphs.{formulas_of}
use Rattle.grc_evaluate.specs.Evaluations.{IsKnown}

-- the wires and the formulas of a graph's equations
wires-zipped : (insts : List Instance) (all names : List Wire) (forms : List Formula) → length forms ≡ length names
    → equation_wires (map (λ (e : Wire × Formula). record { wire = e.0; formula = formula_of insts all e.1 }) (zip names forms)) ≡ names
wires-zipped insts all [] forms len = refl
wires-zipped insts all (n ∷ names) [] len = absurd (omega arith)
wires-zipped insts all (n ∷ names) (f ∷ forms) len = ap (λ ns. n ∷ ns) (wires-zipped insts all names forms (omega arith))

formulas-zipped : (insts : List Instance) (all names : List Wire) (forms : List Formula) → length forms ≡ length names
    → formulas_of (map (λ (e : Wire × Formula). record { wire = e.0; formula = formula_of insts all e.1 }) (zip names forms))
    ≡ map (formula_of insts all) forms
formulas-zipped insts all [] [] len = refl
formulas-zipped insts all [] (f ∷ forms) len = absurd (omega arith)
formulas-zipped insts all (n ∷ names) [] len = absurd (omega arith)
formulas-zipped insts all (n ∷ names) (f ∷ forms) len =
    ap (λ fs. formula_of insts all f ∷ fs) (formulas-zipped insts all names forms (omega arith))

pub plain-wires : (g : Graph) → equation_wires (plain_graph g).equations ≡ names_of g
plain-wires g = wires-zipped (instances_of g) (names_of g) (names_of g) g.equations.items (equations-all g)

pub plain-formulas : (g : Graph) → formulas_of (plain_graph g).equations ≡ map (formula_of (instances_of g) (names_of g)) g.equations.items
plain-formulas g = formulas-zipped (instances_of g) (names_of g) (names_of g) g.equations.items (equations-all g)

-- any formula has its words once all rows are made
pub known-late : (A : Type 0) (f : Formula) → A → IsKnown A f
known-late A (variants.Const b) a = tt
known-late A variants.Boot a = tt
known-late A (variants.Input x) a = tt
known-late A (variants.Wire v) a = tt
known-late A (variants.Selected n) a = tt
known-late A (variants.Upto i k) a = tt
known-late A (variants.Kept i) a = a
known-late A (variants.Held i) a = a
known-late A (variants.Not' x f) a = known-late A f a
known-late A (variants.And' x f y h) a = (known-late A f a, known-late A h a)
known-late A (variants.Or' x f y h) a = (known-late A f a, known-late A h a)
known-late A (variants.AnyOf v) a = tt

-- ---- how deep a formula is

abbrev pub weight : Formula → ℕ
weight (variants.Const b) = 0
weight variants.Boot = 0
weight (variants.Input s) = 0
weight (variants.Wire v) = 0
weight (variants.Selected p) = 0
weight (variants.Upto i k) = 0
weight (variants.Kept i) = 0
weight (variants.Held i) = 0
weight (variants.Not' x f) = weight f + 1
weight (variants.And' x f y h) = weight f + weight h + 1
weight (variants.Or' x f y h) = weight f + weight h + 1
weight (variants.AnyOf v) = 0
