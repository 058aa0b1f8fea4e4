use Rattle.std.proofs.Common.{ℕ, List, ap, map, subst}
use Rattle.std.specs.Prelude.{IfOk, IfSome}
use Rattle.std.proofs.lemmas.Option.{IfSome_then}
use Rattle.std.proofs.lemmas.Result.{IfOk-weaker}
use Rattle.base_types.specs.Items.{EachEvent}
use Rattle.base_types.specs.Relations.{MeetsAll, Relation, relation_of}
use Rattle.est_kernel.specs.Plain.{given_count, given_names, program_of}
use Rattle.net_never.specs.Reached.{events_of, items_of}
use Rattle.cec_compile.specs.Meaning.{AreItems, IsEvent}
use Rattle.cec_prove_sources.specs.Devices.{IsEventOver}
use Rattle.cec_prove_sources.specs.TraceTexts.{IsTraceOver}
use Rattle.cec_prove_sources.proofs.NetShows.{each-event}
use Rattle.cec_prove_sources.proofs.reading.trace_of.Goals as goal

pub returns-clause-trace : goal.returns-clause-trace
returns-clause-trace c =
    let p = program_of c.args.program.now in
    let r = c.readable_trace.result in
    let layout = c.args.layout in
    let events = events_of c.args.events.now in
    subst (λ (rs : List Relation). IfOk r (λ o. IfSome o (λ t. IsTraceOver layout (given_names p) rs events t.items)))
    (ap (map relation_of) c.deref.ensures.value)
    (subst (λ (ns : List (List ℕ)). IfOk r (λ o. IfSome o (λ t. IsTraceOver layout ns (map relation_of c.deref.result.now) events t.items)))
    c.requires.names c.readable_trace.ensures.trace)

pub returns-clause-items : goal.returns-clause-items
returns-clause-items c =
    let p = program_of c.args.program.now in
    let r = c.readable_trace.result in
    let relations = map relation_of c.deref.result.now in
    let items = items_of (events_of c.args.events.now) in
    let given = ap (map relation_of) c.deref.ensures.value in
    let are = λ (each : EachEvent (IsEventOver (given_count p) relations) items).
    each-event (IsEventOver (given_count p) relations) (IsEvent p)
    (λ event is. record { wide = is.wide; meets = subst (λ rs. MeetsAll rs event) given is.meets }) items each in
    IfOk-weaker r (λ o. IfSome o (λ t. EachEvent (IsEventOver (given_count p) relations) items)) (λ o. IfSome o (λ t. AreItems p items))
    (λ o some. IfSome_then o some (λ t each. are each)) c.readable_trace.ensures.items
