use Rattle.std.proofs.Common.{◌∙◌, List, ℕ, [], None, ap, subst, map, arith}
use Rattle.base_types.specs.Relations.{MeetsAll, relation_of}
use Rattle.net_ir.specs.Runs.{netlist_of}
use Rattle.net_never.specs.Reached.{events_of, items_of}
use Rattle.run_trace_io.specs.Answers.{IsTrace, beginning}
use Rattle.cec_prove_sources.specs.Devices.{IsEventOver}
use Rattle.cec_prove_sources.specs.TraceTexts.{trace_text}
use Rattle.cec_prove_sources.proofs.NetShows.{each-event}
use Rattle.cec_prove_sources.proofs.ReadTraces.{related-trace}
use Rattle.cec_prove_sources.proofs.reading.readable_trace.Goals as goal

pub returns-clause-trace : goal.returns-clause-trace
returns-clause-trace c =
    let relations = map relation_of c.args.relations.now in
    let events = events_of c.args.events.now in
    let items = items_of events in
    let text = c.in_ok-text.text.items in
    let are = c.are_events.ensures c.if-not-are_events.false in
    let meets = each-event (IsEventOver c.args.width relations) (MeetsAll relations) (λ event is. is.meets) items are in
    let texts = c.deref-else-len-gt-TRACE_BYTES-2.ensures.value in
    let names = c.deref-else-len-gt-TRACE_BYTES.ensures.value in
    let read = c.in_ok-is_read_as.ensures c.if-not-branch.false in
    let given = c.deref-else-len-gt-TRACE_BYTES.result.now in
    let whole = subst (λ (t : List ℕ). IsTrace (beginning t given []) items None) texts read in
    let named = subst (λ (n : List (List ℕ)). IsTrace (beginning text n []) items None) names whole in
    record {
      spelled = c.in_ok-text.ensures ∙ ap (λ n. trace_text c.args.layout n events) c.deref.ensures.value;
      short = omega arith;
      reads = related-trace text (netlist_of c.args.net.now).inputs relations items meets named;
    }
