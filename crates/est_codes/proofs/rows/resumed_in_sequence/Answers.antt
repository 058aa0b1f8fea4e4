use Rattle.std.proofs.Common.{◌∙◌, ap}
use Rattle.base_types.specs.CodeSet.{members}
use Rattle.est_kernel.specs.StaticCodes.{codes_if}
use Rattle.est_codes.proofs.CodeSets.{resumed_sequence}
use Rattle.est_codes.proofs.rows.resumed_in_sequence.Goals as goal

pub returns : goal.returns
returns c =
    resumed_sequence (members c.args.first.started) (members c.args.first.resumed) (members c.args.next.started) (members c.args.next.resumed)
    (members c.without.result) (members c.where_given-handed_on.result) (members c.where_given-going_on.result) (members c.union-2.result)
    (members c.union-3.result)
    c.has-can_end.result c.without.ensures (c.has-can_end.ensures ∙ ap (λ A. A 0) c.union.ensures)
    (c.where_given-handed_on.ensures ∙ ap (λ b. codes_if b (members c.args.next.started)) c.has.ensures) c.where_given-going_on.ensures c.union-2.ensures
    c.union-3.ensures
