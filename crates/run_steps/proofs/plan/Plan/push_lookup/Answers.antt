use Rattle.std.proofs.Common.{◌≡◌, ◌+◌, ◌<◌, refl, sym, ap, ◌∙◌, subst, arith, All}
use Rattle.run_steps.specs.declared.lookup.Lookup.{Lookup as CodeLookup}
use Rattle.run_steps.specs.declared.plan.Stretch.{Stretch}
use Rattle.run_steps.specs.Plans.{Lookup, Planned, Adds, table_step}
use Rattle.run_steps.specs.Records.{plan_of, plain_lookup}
use Rattle.run_steps.proofs.Pushes.{lookup-adds}
use Rattle.run_steps.proofs.RecordLists.{stretch-more}
use Rattle.run_steps.proofs.plan.Plan.push_lookup.Goals as goal

pub returns : goal.returns
returns c =
    let inside = c.self.inside in
    let output = c.args.output in
    let reads = c.args.reads.now in
    let truth = c.args.truth.now in
    let low = subst (λ (p : Planned). output < p.named) (sym c.self.view_is) c.requires.output in
    let reads_low = subst (λ (p : Planned). All (λ slot. slot < p.named) reads) (sym c.self.view_is) c.requires.reads in
    let last : CodeLookup = record { output = output; reads = c.in_ok-from_slice.field-0; truth = c.in_ok-from_slice-2.field-0 } in
    let l : Lookup = record { output = output; reads = reads; truth = truth } in
    let is : plain_lookup last ≡ l =
    ap (λ r. record { output = output; reads = r; truth = c.in_ok-from_slice-2.field-0.items }) c.in_ok-from_slice.ensures.items
    ∙ ap (λ t. record { output = output; reads = reads; truth = t }) c.in_ok-from_slice-2.ensures.items in
    let stretch : Stretch = record { gates = c.replace-gates.result; last = last } in
    let more = stretch-more inside.stretches.items c.push.new.self.items inside.gates c.replace-gates.new.dest stretch l
    c.in_ok-push.ensures.items (c.replace-gates.ensures.after ∙ c.new.ensures) c.replace-gates.ensures.value is in
    let new = plan_of (record {
      named = inside.named;
      free = inside.named + 1;
      slots = inside.slots;
      stretches = c.push.new.self;
      gates = c.replace-gates.new.dest;
    }) in
    subst (λ old. Adds (table_step output reads truth) old new) c.self.view_is
    (lookup-adds (plan_of inside) new output reads truth refl (omega arith) more low reads_low)
