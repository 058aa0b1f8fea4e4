use Rattle.std.proofs.Common.{◌≡◌, length, map, subst, arith}
use Rattle.std.specs.Prelude.{IfSome}
use Rattle.base_types.specs.Items.{EachEvent}
use Rattle.base_types.specs.Relations.{relation_of}
use Rattle.net_ir.specs.Runs.{netlist_of}
use Rattle.net_never.specs.Reached.{events_of, items_of}
use Rattle.cec_prove_sources.specs.Devices.{IsEventOver}
use Rattle.cec_prove_sources.specs.TraceTexts.{IsTraceOver}
use Rattle.cec_prove_sources.specs.Views.{plain_question}
use Rattle.cec_prove_sources.proofs.NetShows.{device-broken}
use Rattle.cec_prove_sources.proofs.device_findings.broken_by.Goals as goal

pub returns-in-Some : goal.returns-in-Some
returns-in-Some c =
    let asked = c.args.asked in
    let relations = map relation_of c.args.relations.now in
    let net = netlist_of c.args.net.now in
    let events = events_of c.args.events.now in
    let count : c.len-width.result ≡ length net.inputs = omega arith in
    let wide = subst (λ o. IfSome o (λ t. EachEvent (IsEventOver c.len-width.result relations) (items_of events))) c.in-Some.is
    c.in_ok-trace.ensures.items in
    device-broken asked.layout relations net (plain_question asked.question) asked.place asked.assumed events c.in-Some.trace.items c.requires.asks
    (subst (λ n. EachEvent (IsEventOver n relations) (items_of events)) count wide) c.requires.reached
    (subst (λ o. IfSome o (λ t. IsTraceOver asked.layout net.inputs relations events t.items)) c.in-Some.is c.in_ok-trace.ensures.trace)
