use Rattle.std.proofs.Common.{ap, ◌∙◌}
use Rattle.run_steps.specs.Plans.{Planned, made}
use Rattle.run_steps.specs.Records.{gates_made, stretches_made}
use Rattle.run_steps.proofs.RecordLists.{records-made}
use Rattle.run_steps.proofs.plan.Plan.run.Goals as goal

pub returns : goal.returns
returns c =
    let stretches = c.self.inside.stretches.items in
    let gates = c.self.inside.gates in
    let values = c.args.values.now in
    c.make_all.ensures ∙ ap (gates_made gates) (c.make_stretches.ensures ∙ ap (λ ss. stretches_made ss values) c.deref.ensures.value)
    ∙ records-made stretches gates values ∙ ap (λ (p : Planned). made p.lookups values) c.self.view_is
