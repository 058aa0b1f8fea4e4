use Rattle.est_kernel.specs.Plain.{program_of}
use Rattle.cec_commands.proofs.ReactionFiles.{reactions_end}
use Rattle.grc_ternary_stops.proofs.Exports.{fresh_state}
use Rattle.cec_commands.proofs.TraceEnds.{given_differ, reactions_left}
use Rattle.cec_commands.proofs.commands.tri.interface_reactions.Goals as goal

pub run_reactions-ended-requires-clause-names_differ : goal.run_reactions-ended-requires-clause-names_differ
run_reactions-ended-requires-clause-names_differ g c =
    given_differ (program_of c.args.graph.now.program) c.args.interface c.requires.built.names c.requires.interface

pub returns-in-Ok-clause-out : goal.returns-in-Ok-clause-out
returns-in-Ok-clause-out g c =
    reactions_left c.args.graph.now c.in-Ok.made c.run_reactions-ended.new.runner c.args.interface c.args.trace.items _ c.unknown.result.now
    c.run_reactions-ended.result c.reactions_outcome.result c.requires.built.graph c.in-Ok.ensures.graph (fresh_state c.in-Ok.made c.in-Ok.ensures.fresh)
    c.requires.interface c.run_reactions-ended.ensures c.unknown.ensures c.reactions_outcome.ensures

pub returns-in-Ok-clause-ends : goal.returns-in-Ok-clause-ends
returns-in-Ok-clause-ends g c =
    reactions_end c.args.graph.now c.unknown.result.now c.run_reactions-ended.result c.reactions_outcome.result c.reactions_outcome.ensures
