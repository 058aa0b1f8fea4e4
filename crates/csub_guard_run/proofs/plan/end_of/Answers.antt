use Rattle.std.proofs.Common.{length, map, refl, subst, sym, ap, arith}
use Rattle.csub_guard.specs.Views.{piece_of, program_of}
use Rattle.csub_guard_run.specs.Plans.{AllTargets, IsBody}
use Rattle.csub_guard_run.proofs.Fits.{targets-fit}
use Rattle.csub_guard_run.proofs.Stretches.{ends-by}
use Rattle.csub_guard_run.proofs.plan.end_of.Goals as goal

pub body_of-requires-clause-fits : goal.body_of-requires-clause-fits
body_of-requires-clause-fits c =
    let p = program_of c.args.program.now in
    subst (λ l. AllTargets (map (λ k. k.now) c.args.slots.now.keys) (map piece_of l)) (sym c.deref.ensures.value)
    (subst (λ ks. AllTargets ks p.body) (sym c.requires.slots) (targets-fit p c.requires.names))

pub body_of-requires-clause-few : goal.body_of-requires-clause-few
body_of-requires-clause-few c =
    let body = c.args.program.now.body in omega (arith, ap length c.deref.ensures.value, body.ok.0, body.ok.1, body.small)

pub returns : goal.returns
returns c =
    let names = map (λ k. k.now) c.args.slots.now.keys in
    let body = c.in_ok-body.body in
    let e = c.in_ok-answer.ensures in
    ends-by c.args.program.now names body _ c.in_ok-answer.answer c.requires.slots
    (subst (λ l. IsBody names (map piece_of l) body) c.deref.ensures.value c.in_ok-body.ensures) refl e.count e.term e.named e.free
