use Rattle.std.proofs.Common.{◌≡◌, length, map, subst, arith}
use Rattle.std.specs.Prelude.{IfSome}
use Rattle.base_types.specs.Items.{EachEvent}
use Rattle.base_types.specs.Relations.{relation_of}
use Rattle.net_ir.specs.Runs.{netlist_of}
use Rattle.net_never.specs.Reached.{events_of, items_of}
use Rattle.cec_prove_sources.specs.Devices.{IsEventOver}
use Rattle.cec_prove_sources.specs.TraceTexts.{IsTraceOver}
use Rattle.cec_prove_sources.specs.declared.questions.Layout.TheVariants.{LinePerInstant}
use Rattle.cec_prove_sources.proofs.PairedNets.{pair-different}
use Rattle.cec_prove_sources.proofs.device_comparisons.different_by.Goals as goal

pub returns-in-Some : goal.returns-in-Some
returns-in-Some c =
    let relations = map relation_of c.args.relations.now in
    let left = netlist_of c.args.left.now in
    let events = events_of c.args.events.now in
    let count : c.len-width.result ≡ length left.inputs = omega arith in
    let wide = subst (λ o. IfSome o (λ t. EachEvent (IsEventOver c.len-width.result relations) (items_of events))) c.in-Some.is
    c.in_ok-trace.ensures.items in
    record {
      names = c.requires.names;
      events = events;
      difference = pair-different relations left (netlist_of c.args.right.now) (netlist_of c.args.net.now) events c.requires.pair
          (subst (λ n. EachEvent (IsEventOver n relations) (items_of events)) count wide) c.requires.reached;
      is_trace = subst (λ o. IfSome o (λ t. IsTraceOver LinePerInstant left.inputs relations events t.items)) c.in-Some.is
          c.in_ok-trace.ensures.trace;
    }
