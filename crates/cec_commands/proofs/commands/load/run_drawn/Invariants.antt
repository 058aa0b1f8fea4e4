use Rattle.cec_commands.proofs.DrawnRuns.{DrawnSoFar}
use Rattle.std.proofs.Common.{◌≡◌}
use Rattle.cec_commands.proofs.commands.load.run_drawn.Given as goal

-- both machines ran the events so far, and their answers were counted
abbrev pub invariant-loop-instant : goal.invariant-loop-instant
invariant-loop-instant g l = record {
  first : DrawnSoFar g.R.Runner.shows l.fn.circuit l.circuit l.fn.draw l.draw l.instant l.shown.emitted l.shown.paused;
  second : DrawnSoFar g.S.Runner.shows l.fn.machine l.machine l.fn.draw l.draw l.instant l.called.emitted l.called.paused;
  each_input : g.R.Runner.input_count l.circuit ≡ 8;
  each_output : g.R.Runner.output_count l.circuit ≡ 8;
  each_given : g.S.Runner.input_count l.machine ≡ 8;
  each_shown : g.S.Runner.output_count l.machine ≡ 8;
}
