-- Contract: what is read of a trace.
use Rattle.std.specs.Prelude.{◌≡◌, ℕ, ◌+◌, Bool, List}
use Rattle.base_types.specs.Relations.{MeetsAll}
use Rattle.run_trace_io.specs.Traces.{Reading, End, Instant, next_group}

-- the next group of a trace is an instant with this event, and this is the reading after it
abbrev pub IsNext : Reading → List Bool → Reading → Type 0
IsNext old event new = (after : ℕ) × (next_group old ≡ Instant event after) × MeetsAll old.relations event
    × (new ≡ record old { at = after; instant = old.instant + 1 })

-- the trace ends
abbrev pub IsEnd : Reading → Type 0
IsEnd old = next_group old ≡ End
