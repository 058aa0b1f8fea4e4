use Rattle.std.proofs.Common.{◌≡◌, ◌-◌, length}
use Rattle.est_kernel.specs.Plain.{given_count, outgoing_count}
use Rattle.run_trace_io.specs.Answers.{reading_of}
use Rattle.grc_ternary_run.specs.Runners.{program_in}
use Rattle.cec_commands.proofs.RunnerReactions.{ReachedSoFar}
use Rattle.cec_commands.proofs.reactions.run_reactions.Given as goal

-- what the items so far brought
abbrev pub invariant-loop-next : goal.invariant-loop-next
invariant-loop-next g l = record {
  each_input : length l.reader.inputs.items ≡ given_count (program_in l.runner);
  each_output : length l.names.items ≡ outgoing_count (program_in l.runner);
  counted : l.instant ≡ l.reader.instant;
  so_far : ReachedSoFar l.names.items (reading_of l.initial.reader) (reading_of l.reader) l.initial.runner l.runner
      (g.O.Sink.told l.initial.out) (g.O.Sink.told l.out) (g.O.Sink.faults l.initial.out) (g.O.Sink.faults l.out);
}

-- what is left of the text
abbrev pub decreases-loop-next : goal.decreases-loop-next
decreases-loop-next g l = length l.reader.text.items - l.reader.at
