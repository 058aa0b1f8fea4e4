use Rattle.std.proofs.Common.{◌≡◌, ◌≤◌, ◌++◌, map, max, ap, ◌∙◌, subst, arith}
use Rattle.std.proofs.lemmas.List.{map-append}
use Rattle.run_steps.specs.Plans.{Listed}
use Rattle.run_steps.specs.Records.{gate_lookup}
use Rattle.run_steps.proofs.RecordLists.{gates-fit-more}
use Rattle.run_steps.proofs.gates.Gates.push_plan.Goals as goal

pub invariant_of-self : goal.invariant_of-self
invariant_of-self c =
    let inside = c.self.inside in
    let slots = c.max-self-inside.result in
    let old : inside.slots ≤ slots = omega (arith, c.max-self-inside.ensures) in
    let own : c.args.plan.now.slots ≤ slots = omega (arith, c.max-self-inside.ensures, c.slots.ensures.slots) in
    c.append.ensures.fits slots (gates-fit-more inside.slots slots inside.gates old c.self.invariant)
    (gates-fit-more c.args.plan.now.slots slots c.gates.result.now own c.gates.ensures.fit)

pub invariant_of-self-2 : goal.invariant_of-self-2
invariant_of-self-2 c =
    let inside = c.self.inside in
    let slots = c.max-self-inside.result in
    let old : inside.slots ≤ slots = omega (arith, c.max-self-inside.ensures) in
    let own : c.args.plan.now.slots ≤ slots = omega (arith, c.max-self-inside.ensures, c.slots.ensures.slots) in
    c.append.ensures.fits slots (gates-fit-more inside.slots slots inside.gates old c.self.invariant)
    (gates-fit-more c.args.plan.now.slots slots c.gates.result.now own c.gates.ensures.fit)

pub returns-clause-slots : goal.returns-clause-slots
returns-clause-slots c =
    subst (λ (g : Listed). c.max-self-inside.result ≡ max g.slots c.args.plan.now.slots) c.self.view_is
    (c.max-self-inside.ensures ∙ ap (max c.self.inside.slots) c.slots.ensures.slots)

pub returns-clause-lookups : goal.returns-clause-lookups
returns-clause-lookups c =
    let inside = c.self.inside in
    subst (λ (g : Listed). map gate_lookup c.append.new.self ≡ g.lookups ++ c.args.plan.now.lookups) c.self.view_is
    (ap (map gate_lookup) c.in_ok-append.ensures.more ∙ map-append gate_lookup inside.gates c.gates.result.now
    ∙ ap (λ l. map gate_lookup inside.gates ++ l) c.gates.ensures.lookups)
