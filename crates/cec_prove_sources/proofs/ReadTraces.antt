-- Traces that are read, with relations and without them.
use Rattle.std.proofs.Common.{ℕ, ◌+◌, Bool, List, [], ◌∷◌, None, subst}
use Rattle.base_types.specs.Items.{Item, Event, Reset, EachEvent}
use Rattle.base_types.specs.Relations.{Relation, MeetsAll}
use Rattle.run_trace_io.specs.Answers.{IsTrace, beginning}
use Rattle.run_trace_io.specs.Traces.{Reading}
use Rattle.cec_prove_sources.specs.Reading.{IsNext}

-- one event, and then the rest of a trace
pub next-trace : (old new : Reading) (event : List Bool) (items : List Item) → IsNext old event new → IsTrace new items None
    → IsTrace old (Event event ∷ items) None
next-trace old new event items next rest = (next.0, next.1, next.2, subst (λ r. IsTrace r items None) next.3 rest)

with-relations : (text : List ℕ) (inputs : List (List ℕ)) (relations : List Relation) (at instant : ℕ) (items : List Item)
    → EachEvent (MeetsAll relations) items
    → IsTrace (record { text = text; inputs = inputs; relations = []; at = at; instant = instant }) items None
    → IsTrace (record { text = text; inputs = inputs; relations = relations; at = at; instant = instant }) items None
with-relations text inputs relations at instant [] meets trace = trace
with-relations text inputs relations at instant (Event event ∷ items) meets trace =
    (trace.0, trace.1, meets.0, with-relations text inputs relations trace.0 (instant + 1) items meets.1 trace.3)
with-relations text inputs relations at instant (Reset ∷ items) meets trace =
    (trace.0, trace.1, with-relations text inputs relations trace.0 instant items meets trace.2)

-- events that meet relations are read with them as they are without them
pub related-trace : (text : List ℕ) (inputs : List (List ℕ)) (relations : List Relation) (items : List Item) → EachEvent (MeetsAll relations) items
    → IsTrace (beginning text inputs []) items None → IsTrace (beginning text inputs relations) items None
related-trace text inputs relations items meets trace = with-relations text inputs relations 0 1 items meets trace
