use Rattle.std.proofs.Common.{◌∙◌, sym}
use Rattle.base_types.specs.CodeSet.{members}
use Rattle.base_types.specs.Codes.{maxima}
use Rattle.est_kernel.specs.StaticCodes.{has_code, branch_codes}
use Rattle.est_codes.proofs.CodeSets.{resumed_parallel, test_first, test_second}
use Rattle.est_codes.proofs.rows.resumed_in_parallel.Goals as goal
use Rattle.est_codes.proofs.rows.resumed_in_parallel.Goals.{then-has_some, else-has_some}

pub returns : goal.returns
returns c =
    resumed_parallel (branch_codes (members c.args.left.started) (members c.args.left.resumed))
    (branch_codes (members c.args.right.started) (members c.args.right.resumed))
    (members c.max_of.result) (members c.where_given.result) c.if-has_some.goes_on (has_code (members c.args.left.resumed))
    (has_code (members c.args.right.resumed))
    (elim c.if-has_some.branch [
      | then-has_some w ↦ test_first _ _ _ (w.goes_on-is ∙ w.if-has_some.true) (sym c.has_some.ensures ∙ w.if-has_some.true)
      | else-has_some w ↦ test_second _ _ _ (w.goes_on-is ∙ w.has_some-goes_on.ensures) (sym c.has_some.ensures ∙ w.if-has_some.false)
    ])
    (c.max_of.ensures ∙ λ i. maxima (c.branch-left.ensures i) (c.branch-right.ensures i)) c.where_given.ensures
