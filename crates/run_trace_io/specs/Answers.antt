-- To believe: what the reader of a trace answers.
use Rattle.std.specs.Prelude.{◌≡◌, ℕ, ◌+◌, Bool, List, [], ◌∷◌, map, Option, Some, None, Result, Ok, Err}
use Rattle.base_types.specs.Items as driven
use Rattle.base_types.specs.Relations.{Relation, relation_of, MeetsAll}
use Rattle.run_trace_io.specs.declared.faults.TraceFault.{TraceFault}
use Rattle.run_trace_io.specs.declared.faults.TraceFault.TheVariants as faults
use Rattle.run_trace_io.specs.declared.faults.TraceError.{TraceError}
use Rattle.run_trace_io.specs.declared.faults.TraceError.TheVariants.{Fault, NoMemory}
use Rattle.run_trace_io.specs.declared.reader.Item.{Item}
use Rattle.run_trace_io.specs.declared.reader.Item.TheVariants as items
use Rattle.run_trace_io.specs.declared.reader.TraceReader.{TraceReader}
use Rattle.run_trace_io.specs.Broken.{IsFirstBroken}
use Rattle.run_trace_io.specs.Traces.{Reading, End, Reset, Instant, Refused, next_group}

-- what a reader shows
abbrev pub reading_of : TraceReader → Reading
reading_of r = record {
  text = r.text.items;
  inputs = r.inputs.items;
  relations = map relation_of r.relations.items;
  at = r.at;
  instant = r.instant;
}

-- at the beginning of a trace
abbrev pub beginning : List ℕ → List (List ℕ) → List Relation → Reading
beginning text inputs relations =
    record { text = text; inputs = inputs; relations = relations; at = 0; instant = 1 }

-- the fault of the next group: an instant that breaks a relation, with the number of the first such relation, from 1;
-- or what the group is refused for
abbrev pub IsFault : Reading → TraceFault → Type 0
IsFault r (faults.Breaks instant number) =
    (event : List Bool) × (behind : ℕ) × (place : ℕ) × (next_group r ≡ Instant event behind)
    × (instant ≡ r.instant) × (number ≡ place + 1) × IsFirstBroken r.relations event place
IsFault r fault = next_group r ≡ Refused fault

-- The answer by the next group, and the reading after it. At the end, at a fault and because memory ran out it is as it
-- was.
abbrev pub AnswersGroup : Reading → Result (Option Item) TraceError → Reading → Type 0
AnswersGroup old (Ok None) new = (next_group old ≡ End) × (new ≡ old)
AnswersGroup old (Ok (Some items.Reset)) new =
    (behind : ℕ) × (next_group old ≡ Reset behind) × (new ≡ record old { at = behind })
AnswersGroup old (Ok (Some (items.React event))) new =
    (behind : ℕ) × (next_group old ≡ Instant event behind) × MeetsAll old.relations event
    × (new ≡ record old { at = behind; instant = old.instant + 1 })
AnswersGroup old (Err (Fault fault)) new = IsFault old fault × (new ≡ old)
AnswersGroup old (Err NoMemory) new = new ≡ old

-- The items of a trace from a reading on, and what comes after them: the end of the text, or the first fault.
abbrev pub IsTrace : Reading → List driven.Item → Option TraceFault → Type 0
IsTrace r [] None = next_group r ≡ End
IsTrace r [] (Some fault) = IsFault r fault
IsTrace r (driven.Reset ∷ more) end =
    (behind : ℕ) × (next_group r ≡ Reset behind) × IsTrace (record r { at = behind }) more end
IsTrace r (driven.Event event ∷ more) end =
    (behind : ℕ) × (next_group r ≡ Instant event behind) × MeetsAll r.relations event
    × IsTrace (record r { at = behind; instant = r.instant + 1 }) more end
