use Rattle.base_types.specs.Writing.{Wrote}
use Rattle.cec_prove_commands.specs.Lines.{progress_lines}
use Rattle.cec_prove_commands.proofs.search.patient_answer.Given as goal

-- the lines so far were written, or a prefix of them
abbrev pub invariant-loop-further : goal.invariant-loop-further
invariant-loop-further g l =
    Wrote (g.E.Sink.told l.initial.err) (g.E.Sink.told l.err) (g.E.Sink.faults l.initial.err) (g.E.Sink.faults l.err) (progress_lines l.further) l.told
