-- Inner: which parts of a statement may hold a selected pause.
use Rattle.std.specs.Prelude.{ℕ}
use Rattle.est_kernel.specs.Terms.{Term, Nothing, Pause, Emit, Exit, Present, Suspend, Seq, Loop, Par, Trap, Local}
use Rattle.est_kernel.specs.Terms.{Awake}
use Rattle.grc_graph.specs.Statements.{Listed}
use Rattle.grc_formulas.specs.declared.selected.Parts.{Parts}
use Rattle.grc_formulas.specs.declared.selected.Parts.TheVariants as kinds

abbrev pub kind_of : Term → ℕ → Parts
kind_of Nothing m = kinds.None
kind_of Pause m = kinds.Itself
kind_of (Emit s) m = kinds.None
kind_of (Exit k) m = kinds.None
kind_of (Present e p q) m = kinds.Two m
kind_of (Suspend e p) m = kinds.One
kind_of (Seq p q) m = kinds.Two m
kind_of (Loop at p) m = kinds.One
kind_of (Par p q) m = kinds.Two m
kind_of (Trap p) m = kinds.One
kind_of (Local s p) m = kinds.One
kind_of (Awake e p) m = kinds.None

abbrev pub parts_of : Listed → Parts
parts_of s = kind_of s.statement s.second
