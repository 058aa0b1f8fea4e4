use Rattle.std.proofs.Common.{map, refl}
use Rattle.base_types.specs.declared.bounds.TheConstants.Limits.{TRACE_BYTES}
use Rattle.grc_graph.specs.PlainWireNames.{wire_name_of}
use Rattle.run_over_traces.proofs.Exports.{untouched}
use Rattle.cec_text_io.specs.Contents.{Holds}
use Rattle.cec_commands.specs.JobViews.{plain_job}
use Rattle.cec_commands.specs.TriRuns.{ReactsOver, StopsOver}
use Rattle.cec_text_io.proofs.Exports.{held_read}
use Rattle.cec_commands.proofs.ReactionFiles.{built_source, graph_refused, react_trace_unread, reacted_counts, reacted_long, reacted_on}
use Rattle.cec_commands.proofs.ReactionFiles.{reactions_unread, refused_leaves_reactions, refused_reacts, trace_left}
use Rattle.cec_commands.proofs.TextSizes.{built_relations_few}
use Rattle.cec_commands.proofs.TwoFiles.{count_trace_unread, long_trace_unread, refused_counts, refused_long}
use Rattle.cec_commands.proofs.commands.tri.source_reactions.Goals as goal

pub returns-in-Err-clause-agrees : goal.returns-in-Err-clause-agrees
returns-in-Err-clause-agrees g c =
    rw c.from.ensures (refused_reacts (plain_job c.args.job).main c.in-Err.refusal c.args.source.now c.requires c.in-Err.ensures.refuses)

pub returns-in-Err-clause-long_trace : goal.returns-in-Err-clause-long_trace
returns-in-Err-clause-long_trace g c =
    rw c.from.ensures
    (refused_long (g.F.Files.content c.args.files.now) c.args.trace.now (plain_job c.args.job).main c.in-Err.refusal c.args.source.now
    (graph_refused c.args.source.now (plain_job c.args.job).main c.in-Err.refusal c.in-Err.ensures.refuses))

pub returns-in-Err-clause-files_counted : goal.returns-in-Err-clause-files_counted
returns-in-Err-clause-files_counted g c = rw c.from.ensures (refused_counts c.args.trace.now c.in-Err.refusal _ _)

pub returns-in-Err-clause-out : goal.returns-in-Err-clause-out
returns-in-Err-clause-out g c =
    let content = g.F.Files.content c.args.files.now in
    let trace = c.args.trace.now in
    let main = (plain_job c.args.job).main in
    let s = untouched (g.O.Sink.told c.args.out.now) (g.O.Sink.faults c.args.out.now) in
    rw c.from.ensures
    (refused_leaves_reactions (λ ended. Holds content trace (λ items. ReactsOver main c.args.source.now items s ended))
    (λ wires. Holds content trace (λ items. StopsOver main c.args.source.now items s wires.instant (map wire_name_of wires.wires.items))) s c.in-Err.refusal
    (refl, refl))

pub graph_reactions-requires-clause-few : goal.graph_reactions-requires-clause-few
graph_reactions-requires-clause-few g c =
    built_relations_few c.args.source.now (plain_job c.args.job).main c.in-Ok.graph c.requires c.in-Ok.ensures.built

pub returns-in-Ok-read-clause-agrees : goal.returns-in-Ok-read-clause-agrees
returns-in-Ok-read-clause-agrees g c =
    let main = (plain_job c.args.job).main in
    reacted_on main c.args.source.now c.graph_reactions.result c.graph_reactions.ensures.ends
    (built_source main c.args.source.now c.in-Ok.graph c.requires c.in-Ok.ensures.built)

pub returns-in-Ok-read-clause-long_trace : goal.returns-in-Ok-read-clause-long_trace
returns-in-Ok-read-clause-long_trace g c =
    reacted_long (g.F.Files.content c.args.files.now) c.args.trace.now c.graph_reactions.result c.graph_reactions.ensures.ends

pub returns-in-Ok-read-clause-files_counted : goal.returns-in-Ok-read-clause-files_counted
returns-in-Ok-read-clause-files_counted g c =
    reacted_counts c.args.trace.now c.graph_reactions.result _ _ _ _ c.graph_reactions.ensures.ends c.in-Ok-read.ensures.counts

pub returns-in-Ok-read-clause-out : goal.returns-in-Ok-read-clause-out
returns-in-Ok-read-clause-out g c =
    let content = g.F.Files.content c.args.files.now in
    trace_left content c.args.trace.now (plain_job c.args.job).main c.args.source.now c.in-Ok.graph c.in-Ok-read.items.items _ c.graph_reactions.result
    c.requires
    c.in-Ok.ensures.built (held_read content c.args.trace.now TRACE_BYTES c.in-Ok-read.items c.in-Ok-read.ensures.bytes) c.graph_reactions.ensures.out

pub returns-clause-agrees : goal.returns-clause-agrees
returns-clause-agrees g c =
    let main = (plain_job c.args.job).main in
    rw c.unread.ensures
    (react_trace_unread main c.args.source.now c.in-Err-read.fault (built_source main c.args.source.now c.in-Ok.graph c.requires c.in-Ok.ensures.built))

pub returns-clause-long_trace : goal.returns-clause-long_trace
returns-clause-long_trace g c =
    rw c.unread.ensures (long_trace_unread (g.F.Files.content c.args.files.now) c.args.trace.now c.in-Err-read.fault c.in-Err-read.ensures.bytes)

pub returns-clause-files_counted : goal.returns-clause-files_counted
returns-clause-files_counted g c =
    rw c.unread.ensures (count_trace_unread c.args.trace.now c.in-Err-read.fault _ _ _ _ c.in-Err-read.ensures.counts)

pub returns-clause-out : goal.returns-clause-out
returns-clause-out g c =
    let content = g.F.Files.content c.args.files.now in
    let trace = c.args.trace.now in
    let main = (plain_job c.args.job).main in
    let s = untouched (g.O.Sink.told c.args.out.now) (g.O.Sink.faults c.args.out.now) in
    rw c.unread.ensures
    (reactions_unread (λ ended. Holds content trace (λ items. ReactsOver main c.args.source.now items s ended))
    (λ wires. Holds content trace (λ items. StopsOver main c.args.source.now items s wires.instant (map wire_name_of wires.wires.items))) s
    c.in-Err-read.fault (refl, refl))
