use Rattle.std.proofs.Common.{◌≡◌, All, sym, ap, ◌∙◌, subst}
use Rattle.run_steps.specs.Plans.{Planned}
use Rattle.run_steps.specs.Records.{GateFits}
use Rattle.run_steps.proofs.RecordLists.{gates-alone}
use Rattle.run_steps.proofs.plan.Plan.gates.Goals as goal

pub returns-clause-lookups : goal.returns-clause-lookups
returns-clause-lookups c =
    let inside = c.self.inside in
    let none = subst (λ (p : Planned). p.tables ≡ 0) (sym c.self.view_is) c.requires in
    gates-alone inside.stretches.items inside.gates none ∙ ap (λ (p : Planned). p.lookups) c.self.view_is

pub returns-clause-fit : goal.returns-clause-fit
returns-clause-fit c =
    subst (λ (p : Planned). All (GateFits p.slots) c.self.inside.gates) c.self.view_is c.self.invariant.gates_fit
