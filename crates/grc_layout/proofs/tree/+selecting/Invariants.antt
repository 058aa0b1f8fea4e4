use Rattle.std.proofs.Common.{◌+◌, ◌*◌}
use Rattle.est_kernel.specs.Plain.{term_of}
use Rattle.est_kernel.specs.Preorder.{statement_count}
use Rattle.grc_layout.proofs.tree.+selecting.Given as goal

-- twice the statements that are left, and one more for a walk over the parts alone
abbrev pub decreases-select_part : goal.decreases-select_part
decreases-select_part l = statement_count (term_of l.body.now) * 2

abbrev pub decreases-select_passing : goal.decreases-select_passing
decreases-select_passing l = statement_count (term_of l.part.now) * 2 + 1

abbrev pub decreases-select_test : goal.decreases-select_test
decreases-select_test l = (statement_count (term_of l.yes.now) + statement_count (term_of l.no.now)) * 2 + 1

abbrev pub decreases-select_sequence : goal.decreases-select_sequence
decreases-select_sequence l = (statement_count (term_of l.first.now) + statement_count (term_of l.second.now)) * 2 + 1

abbrev pub decreases-select_parallel : goal.decreases-select_parallel
decreases-select_parallel l = (statement_count (term_of l.left.now) + statement_count (term_of l.right.now)) * 2 + 1
