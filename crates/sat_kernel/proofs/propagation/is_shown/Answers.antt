use Rattle.std.proofs.Common.{length, ap, ◌∙◌}
use Rattle.sat_kernel.specs.Clauses.{plain_assumed, plain_derived}
use Rattle.sat_kernel.specs.Propagation.{Propagation, cited, cleared, cleared_along, propagated}
use Rattle.sat_kernel.proofs.Restoring.{restored}
use Rattle.sat_kernel.proofs.propagation.is_shown.Goals as goal

pub returns-clause-answer : goal.returns-clause-answer
returns-clause-answer c =
    let clause_of = cited (plain_assumed c.args.assumed.now) (plain_derived c.args.derived.now) in
    ap (λ (p : Propagation). p.conflict) c.propagate-answer.ensures
    ∙ ap (λ ms. (propagated clause_of ms c.args.hints.now).conflict) c.deny_clause.ensures

pub returns-clause-same : goal.returns-clause-same
returns-clause-same c =
    let clause_of = cited (plain_assumed c.args.assumed.now) (plain_derived c.args.derived.now) in
    let hints = c.args.hints.now in
    let clause = c.args.clause.now in
    c.clear_along.ensures ∙ ap (λ ms. cleared_along clause_of ms hints) c.clear_clause.ensures
    ∙ ap (λ ms. cleared_along clause_of (cleared ms clause) hints) (ap (λ (p : Propagation). p.marks) c.propagate-answer.ensures)
    ∙ ap (λ ms. cleared_along clause_of (cleared (propagated clause_of ms hints).marks clause) hints) c.deny_clause.ensures
    ∙ restored clause_of c.args.marks.now clause hints (length c.args.marks.now) c.requires
