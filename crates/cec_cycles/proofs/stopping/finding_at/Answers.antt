use Rattle.std.proofs.Common.{◌+◌, refl, subst, take}
use Rattle.std.specs.Prelude.{IfSome}
use Rattle.est_kernel.specs.Plain.{program_of}
use Rattle.net_never.specs.Reached.{events_of, items_of}
use Rattle.cec_compile.specs.Meaning.{AreItems}
use Rattle.cec_prove_sources.specs.Verdicts.{IsTraceOf}
use Rattle.cec_prove_sources.specs.declared.questions.Layout.TheVariants.{LinePerInstant}
use Rattle.cec_cycles.proofs.Stopped.{is-stuck}
use Rattle.cec_cycles.proofs.stopping.finding_at.Goals as goal

pub returns-in_ok-text-in-Some : goal.returns-in_ok-text-in-Some
returns-in_ok-text-in-Some c =
    let p = program_of c.args.program.now in
    let events = events_of (take (c.args.stop.before + 1) c.args.events.now) in
    let fit : AreItems p (items_of events) =
    subst (λ o. IfSome o (λ t. AreItems p (items_of events))) c.in-Some.is c.in_ok-found.ensures.items in
    let trace : IsTraceOf LinePerInstant p events c.in-Some.trace.items =
    subst (λ o. IfSome o (λ t. IsTraceOf LinePerInstant p events t.items)) c.in-Some.is c.in_ok-found.ensures.trace in
    is-stuck p c.args.events.now c.args.stop _ c.requires.stops fit trace refl refl
