use Rattle.std.proofs.Common.{◌∙◌, sym, ap, length, subst, Ok, Err}
use Rattle.base_types.specs.SinkChanges.{change}
use Rattle.est_kernel.specs.Plain.{given_count, outgoing_count, program_of}
use Rattle.grc_graph.specs.declared.graph.Graph.{Graph}
use Rattle.run_trace_io.specs.Traces.{Reading}
use Rattle.run_trace_io.specs.Answers.{reading_of}
use Rattle.run_over_traces.proofs.Exports.{run-ends}
use Rattle.cec_commands.specs.ReactionSteps.{IsReactionStep, RunnerShows}
use Rattle.cec_commands.proofs.RunnerReactions.{none_shown, nothing_yet, one_item_more, run_cut_off, shown_so_far}
use Rattle.cec_commands.proofs.reactions.run_reactions.Goals as goal

pub loop-next-init : goal.loop-next-init
loop-next-init g c = record {
  each_input = ap (λ (r : Reading). length r.inputs) c.new-reader.ensures ∙ c.requires.each_input;
  each_output = c.requires.each_output;
  counted = sym (ap (λ (r : Reading). r.instant) c.new-reader.ensures);
  so_far = nothing_yet c.args.interface.outgoing.items (reading_of c.new-reader.result) c.args.runner.now (g.O.Sink.told c.args.out.now)
      (g.O.Sink.faults c.args.out.now);
}

pub loop-next-preserved : goal.loop-next-preserved
loop-next-preserved g c =
    let inv = c.loop-next.invariant in
    let stays = c.react_to_item.ensures in
    let q = reading_of c.loop-next.reader in
    let p = reading_of c.react_to_item.new.reader in
    let s = change g.O.Sink.told g.O.Sink.faults c.loop-next.out c.react_to_item.new.out in
    let step = subst (λ n. IsReactionStep n q p c.loop-next.runner c.react_to_item.new.runner s (Ok c.in-Ok-Some.field-0)) c.deref.ensures.value
    c.in-Ok-Some.ensures.step in
    let one = subst (λ o. IsReactionStep c.args.interface.outgoing.items q p c.loop-next.runner c.react_to_item.new.runner s (Ok o))
    c.in-Ok-Some.field-0-is step in
    record {
      each_input = ap length stays.given_stay ∙ inv.each_input ∙ sym (ap (λ (x : Graph). given_count (program_of x.program)) stays.graph_stays);
      each_output = inv.each_output ∙ sym (ap (λ (x : Graph). outgoing_count (program_of x.program)) stays.graph_stays);
      counted = one.1;
      so_far = one_item_more _ _ _ _ _ _ _ _ _ _ _ _ _ inv.so_far one.0;
    }

pub returns-in-Ok-None : goal.returns-in-Ok-None
returns-in-Ok-None g c =
    let q = reading_of c.loop-next.reader in
    let p = reading_of c.react_to_item.new.reader in
    let s = change g.O.Sink.told g.O.Sink.faults c.loop-next.out c.react_to_item.new.out in
    let step = subst (λ n. IsReactionStep n q p c.loop-next.runner c.react_to_item.new.runner s (Ok c.in-Ok-None.field-0)) c.deref.ensures.value
    c.in-Ok-None.ensures.step in
    let last = subst (λ o. IsReactionStep c.args.interface.outgoing.items q p c.loop-next.runner c.react_to_item.new.runner s (Ok o))
    c.in-Ok-None.field-0-is step in
    run-ends RunnerShows _ _ _ _ _ _ _ _ (none_shown c.react_to_item.new.runner) _ _ _ _ _ _ c.new-reader.ensures
    (shown_so_far _ _ _ _ _ _ _ _ _ c.loop-next.invariant.so_far) last

pub returns-in-Err : goal.returns-in-Err
returns-in-Err g c =
    let q = reading_of c.loop-next.reader in
    let p = reading_of c.react_to_item.new.reader in
    let s = change g.O.Sink.told g.O.Sink.faults c.loop-next.out c.react_to_item.new.out in
    let step = subst (λ n. IsReactionStep n q p c.loop-next.runner c.react_to_item.new.runner s (Err c.in-Err.fault)) c.deref.ensures.value
    c.in-Err.ensures.step in
    run_cut_off _ _ _ _ _ _ _ _ _ _ _ _ _ _ c.in-Err.fault c.new-reader.ensures c.loop-next.invariant.so_far step
