-- The size of a formula, which falls from a formula to its parts.
use Rattle.std.proofs.Common.{ℕ, ◌+◌}
use Rattle.grc_graph.specs.declared.formulas.Formula.{Formula}
use Rattle.grc_graph.specs.declared.formulas.Formula.TheVariants as formulas

abbrev pub weight : Formula → ℕ
weight (formulas.Const b) = 1
weight formulas.Boot = 1
weight (formulas.Input s) = 1
weight (formulas.Wire v) = 1
weight (formulas.Selected p) = 1
weight (formulas.Upto i k) = 1
weight (formulas.Kept i) = 1
weight (formulas.Held i) = 1
weight (formulas.Not' _ a) = weight a + 1
weight (formulas.And' _ a _ b) = weight a + weight b + 1
weight (formulas.Or' _ a _ b) = weight a + weight b + 1
weight (formulas.AnyOf v) = 1
