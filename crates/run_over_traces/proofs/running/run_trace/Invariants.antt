use Rattle.std.proofs.Common.{◌≡◌, ◌-◌, length}
use Rattle.run_trace_io.specs.Answers.{reading_of}
use Rattle.run_over_traces.proofs.Stepping.{SoFarTowards}
use Rattle.run_over_traces.proofs.running.run_trace.Given as goal

-- what the items so far brought
abbrev pub invariant-loop-reader : goal.invariant-loop-reader
invariant-loop-reader g l = record {
  each_input : length l.reader.inputs.items ≡ g.R.Runner.input_count l.runner;
  each_output : length l.names.items ≡ g.R.Runner.output_count l.runner;
  so_far : SoFarTowards g.R.Runner.shows g.R.Runner.becomes l.names.items (reading_of l.initial.reader) (reading_of l.reader)
      l.initial.runner l.runner
      (g.O.Sink.told l.initial.out) (g.O.Sink.told l.out) (g.O.Sink.faults l.initial.out) (g.O.Sink.faults l.out);
}

-- what is left of the text
abbrev pub decreases-loop-reader : goal.decreases-loop-reader
decreases-loop-reader g l = length l.reader.text.items - l.reader.at
