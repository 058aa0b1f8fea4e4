use Rattle.std.proofs.Common.{◌≡◌, ◌++◌, drop}
use Rattle.net_never.specs.Reached.{events_of}
use Rattle.cec_prove_sources.specs.TraceTexts.{trace_text}
use Rattle.cec_prove_sources.proofs.traces.trace_text.Given as goal

abbrev pub invariant-loop-event : goal.invariant-loop-event
invariant-loop-event l =
    l.text.items ++ trace_text l.layout l.names (events_of (drop l.event-index l.events)) ≡ trace_text l.layout l.names (events_of l.events)
