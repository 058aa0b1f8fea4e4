use Rattle.std.proofs.Common.{List, map, ap, subst, ◌∙◌}
use Rattle.sat_kernel.specs.Clauses.{IsImplied, opposite}
use Rattle.sat_kernel.specs.declared.literals.Literal.{Literal}
use Rattle.net_follow.proofs.Clausal.{shown-refuted}
use Rattle.net_follow.proofs.proving.Prover.shows.Goals as goal

pub returns : goal.returns
returns c =
    let literals = c.in-Some.literals.items in
    let denial = c.in_ok-denial.denial.items in
    let new = c.refutes.new.self in
    let coded = rw c.in-Some.is at c.in_ok-literals.ensures in
    let denied = c.in_ok-denial.ensures ∙ ap (map opposite) c.deref.ensures.value in
    shown-refuted c.args.clause literals denial c.args.self.now new c.in_ok-refutes.field-0 coded denied c.in_ok-refutes.ensures.assumed
    (λ refuted. subst (λ (d : List Literal). IsImplied new.kernel.assumed (map opposite d)) c.deref-2.ensures.value (c.in_ok-refutes.ensures.follows refuted))
