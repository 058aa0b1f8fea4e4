use Rattle.std.proofs.Common.{◌+◌, ◌*◌}
use Rattle.grc_evaluate.proofs.Exports.{weight}
use Rattle.grc_ternary_run.proofs.formulas.+making.Given as goal

abbrev pub decreases-make_gate : goal.decreases-make_gate
decreases-make_gate l = weight l.formula.now * 3

abbrev pub decreases-make_node : goal.decreases-make_node
decreases-make_node l = weight l.formula.now * 3 + 1

abbrev pub decreases-make_nodes : goal.decreases-make_nodes
decreases-make_nodes l = (weight l.left.now + weight l.right.now) * 3 + 2
