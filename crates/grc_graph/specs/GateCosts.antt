-- To believe: how many gates the formulas of a graph need.
--
-- A word or a constant has a net already. A negation needs one gate in addition to its part, and a conjunction or a
-- disjunction one in addition to its parts.
use Rattle.std.specs.Prelude.{ℕ, ◌+◌, suc, zero, length}
use Rattle.grc_graph.specs.declared.formulas.Formula.{Formula}
use Rattle.grc_graph.specs.declared.formulas.Formula.TheVariants as formulas

-- the or of so many wires
abbrev pub any_cost : ℕ → ℕ
any_cost zero = 0
any_cost (suc n) = n

-- the greatest number of gates of a formula
abbrev pub cost_of : Formula → ℕ
cost_of (formulas.Const b) = 0
cost_of formulas.Boot = 0
cost_of (formulas.Input s) = 0
cost_of (formulas.Wire v) = 0
cost_of (formulas.Selected p) = 0
cost_of (formulas.Upto i k) = 0
cost_of (formulas.Kept i) = 0
cost_of (formulas.Held i) = 0
cost_of (formulas.Not' _ a) = cost_of a + 1
cost_of (formulas.And' _ a _ b) = cost_of a + cost_of b + 1
cost_of (formulas.Or' _ a _ b) = cost_of a + cost_of b + 1
cost_of (formulas.AnyOf v) = any_cost (length v.items)
