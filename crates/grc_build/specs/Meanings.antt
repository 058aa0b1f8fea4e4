-- Inner: what a formula by numbers means by names.
use Rattle.std.specs.Prelude.{◌≡◌, ◌<◌, Bool, true, false, if◌then◌else◌, List, [], ◌∷◌, length, Option, MatchOption}
use Rattle.std.specs.Prelude.{IsTrue}
use Rattle.grc_graph.specs.declared.formulas.Formula.{Formula}
use Rattle.grc_graph.specs.Instances.{Instance}
use Rattle.grc_graph.specs.Wires.{Wire}
use Rattle.grc_graph.specs.Formulas as plain
use Rattle.grc_graph.specs.Formulas.{any_of}
use Rattle.grc_graph.specs.GraphShapes.{formula_fits}
use Rattle.grc_graph.specs.PlainGraphs.{formula_of}

-- its numbers are those of these instances and wires, and by their names it is this formula
pub record Means (insts : List Instance) (names : List Wire) (f : Formula) (a : plain.Formula) : Type 0 where
  pub fits : IsTrue (formula_fits (length insts) (length names) f)
  pub same : formula_of insts names f ≡ a

-- a formula where a condition holds
abbrev pub formula_if : Bool → plain.Formula → List plain.Formula
formula_if b a = if b then a ∷ [] else []

-- it is there where the condition holds
abbrev pub MeansIf : List Instance → List Wire → Option Formula → Bool → plain.Formula → Type 0
MeansIf insts names r b a = MatchOption r (b ≡ false) (λ f. (b ≡ true) × Means insts names f a)

-- the or of these formulas, if there are any
pub record MeansSome (insts : List Instance) (names : List Wire) (f : Formula) (xs : List plain.Formula) : Type 0 where
  pub some : 0 < length xs
  pub means : Means insts names f (any_of xs)

abbrev pub MeansAny : List Instance → List Wire → Option Formula → List plain.Formula → Type 0
MeansAny insts names r xs = MatchOption r (xs ≡ []) (λ f. MeansSome insts names f xs)
