-- The events of a trace: each has a value for each input, and meets every relation.
use Rattle.std.proofs.Common.{◌≡◌, ℕ, ◌+◌, ◌≤◌, List, [], ◌∷◌, length, subst, arith, Some, None, Result, Ok, Err}
use Rattle.base_types.specs.Items.{Item, Event, Reset, EachEvent}
use Rattle.base_types.specs.Relations.{MeetsAll}
use Rattle.base_types.specs.SinkChanges.{SinkChange}
use Rattle.run_trace_io.specs.Traces.{Reading}
use Rattle.run_trace_io.specs.Answers.{beginning}
use Rattle.run_over_traces.specs.declared.running.RunFault.{RunFault}
use Rattle.run_over_traces.specs.declared.running.RunFault.TheVariants.{Trace, Write, NoMemory}
use Rattle.run_over_traces.specs.Running.{IsTraceFront, RunsTrace}
use Rattle.run_over_traces.specs.Laws.{TracesBegin, EventsFit}
use Rattle.run_over_traces.proofs.Groups.{Fits, fits-next}
use Rattle.run_over_traces.proofs.Fronts.{front-whole}

events-from : (r : Reading) (items : List Item) → r.at ≤ length r.text → IsTraceFront r items
    → EachEvent (λ event. (length event ≡ length r.inputs) × MeetsAll r.relations event) items
events-from r [] h f = tt
events-from r (Reset ∷ items) h f =
    let fits = subst (Fits r.at (length r.text) (length r.inputs)) f.1 (fits-next r h) in
    events-from (record r { at = f.0 }) items fits.1 f.2
events-from r (Event event ∷ items) h f =
    let fits = subst (Fits r.at (length r.text) (length r.inputs)) f.1 (fits-next r h) in
    ((fits.2, f.2), events-from (record r { at = f.0; instant = r.instant + 1 }) items fits.1 f.3)

pub traces-begin : TracesBegin
traces-begin trace items end t = front-whole trace items end t

pub events-fit : EventsFit
events-fit text inputs relations items f = events-from (beginning text inputs relations) items (omega arith) f

-- what brings one text about brings the other, over the first items of the trace
pub runs-along : (W V : List Item → List ℕ → Type 0) (r : Reading) (s : SinkChange) (result : Result (Unit {0}) RunFault)
    → ((items : List Item) (text : List ℕ) → IsTraceFront r items → W items text → V items text) → RunsTrace W r s result → RunsTrace V r s result
runs-along W V r s (Ok done) f x = (x.0, x.1, x.2, f x.0 x.1 (traces-begin r x.0 None x.2) x.3, x.4)
runs-along W V r s (Err (Trace fault)) f x = (x.0, x.1, x.2, f x.0 x.1 (traces-begin r x.0 (Some fault) x.2) x.3, x.4)
runs-along W V r s (Err Write) f x = (x.0, x.1, x.2, f x.0 x.1 x.2 x.3, x.4)
runs-along W V r s (Err NoMemory) f x = (x.0, x.1, x.2, f x.0 x.1 x.2 x.3, x.4, x.5)
