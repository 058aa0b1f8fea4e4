use Rattle.std.proofs.Common.{List, map, sym, subst, ◌∙◌}
use Rattle.sat_kernel.specs.declared.literals.Literal.{Literal}
use Rattle.sat_kernel.specs.Clauses.{IsImplied, opposite}
use Rattle.net_never.proofs.Denials.{follows-denied, tautology-follows}
use Rattle.net_never.proofs.proving.Prover.implies.Goals as goal

pub returns-then-is_tautology-clause-follows : goal.returns-then-is_tautology-clause-follows
returns-then-is_tautology-clause-follows c = λ yes.
    tautology-follows c.args.self.now.kernel.assumed c.args.clause.now (sym c.is_tautology.ensures ∙ c.if-is_tautology.true)

pub returns-clause-follows : goal.returns-clause-follows
returns-clause-follows c = λ yes.
    let known = c.args.self.now.kernel.assumed in
    follows-denied known c.args.clause.now c.in_ok-denial.denial.items c.in_ok-denial.ensures
    (subst (λ (d : List Literal). IsImplied known (map opposite d)) c.deref.ensures.value (c.in_ok-refutes.ensures.follows yes))
