-- Inner: that a graph needs few gates.
use Rattle.std.specs.Prelude.{ℕ, ◌+◌, ◌*◌, ◌≤◌, List, Option, Vec}
use Rattle.std.specs.Global.{Global}
use Rattle.std.specs.List.{sum_by}
use Rattle.base_types.specs.declared.bounds.TheConstants.Limits.{WIRES}
use Rattle.est_kernel.specs.Plain.{Program}
use Rattle.grc_graph.specs.declared.formulas.Formula.{Formula}
use Rattle.grc_graph.specs.declared.loops.LoopBodies.{LoopBodies}
use Rattle.grc_graph.specs.Instances.{Instance}
use Rattle.grc_graph.specs.GateCosts.{cost_of}
use Rattle.grc_graph.specs.GraphSizes.{graph_size}
use Rattle.grc_graph.specs.RowCosts.{rows_over}

-- A graph over these instances, of so many wires with these formulas, keeps the limit. Two gates for each wire, one for
-- each row of its table of words, those of its formulas, and two constants are at most 15 for each wire and each live
-- test node of the program.
pub record HasFewGates (p : Program) (insts : List Instance) (loops : Option (Vec LoopBodies Global)) (wires : ℕ)
    (equations next : List Formula) : Type 0 where
  pub size : graph_size p ≤ WIRES
  pub gates : 2 + 2 * wires + rows_over p insts loops + sum_by cost_of equations + sum_by cost_of next
      ≤ 15 * graph_size p
