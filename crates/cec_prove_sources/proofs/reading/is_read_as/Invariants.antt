use Rattle.std.proofs.Common.{[], drop, None}
use Rattle.net_never.specs.Reached.{events_of, items_of}
use Rattle.run_trace_io.specs.Answers.{IsTrace, beginning, reading_of}
use Rattle.cec_prove_sources.proofs.reading.is_read_as.Given as goal

-- where the rest of the trace is the rest of the events, the whole trace is all of them
abbrev pub invariant-loop-event : goal.invariant-loop-event
invariant-loop-event l =
    IsTrace (reading_of l.reader) (items_of (events_of (drop l.event-index l.events))) None
    → IsTrace (beginning l.text l.names []) (items_of (events_of l.events)) None
