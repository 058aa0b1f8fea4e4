use Rattle.std.proofs.Common.{◌≤◌, length, sym, ap, ◌∙◌, subst}
use Rattle.std.specs.Prelude.{slice_range}
use Rattle.run_steps.specs.Plans.{Listed, made}
use Rattle.run_steps.proofs.RecordLists.{gates-fit-more, part-made}
use Rattle.run_steps.proofs.gates.Gates.run.Goals as goal

pub make_part-requires-clause-fits : goal.make_part-requires-clause-fits
make_part-requires-clause-fits c =
    let inside = c.self.inside in
    let values = c.args.values.now in
    let wide = subst (λ (g : Listed). g.slots ≤ length values) (sym c.self.view_is) c.requires.fits in
    gates-fit-more inside.slots (length values) inside.gates wide c.self.invariant

pub returns : goal.returns
returns c =
    let gates = c.self.inside.gates in
    let values = c.args.values.now in
    c.make_part.ensures ∙ part-made gates c.args.from c.args.to values
    ∙ ap (λ (g : Listed). made (slice_range g.lookups c.args.from c.args.to) values) c.self.view_is
