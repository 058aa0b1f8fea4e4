use Rattle.std.proofs.Common.{map}
use Rattle.run_trace_io.specs.Found.{IsFound}
use Rattle.run_trace_io.proofs.relations.is_at_most_one.Given as goal

abbrev pub invariant-loop-signal : goal.invariant-loop-signal
invariant-loop-signal l = IsFound l.event (map (λ s. s.0) l.signals) l.signal-index l.found
