-- Worked fronts of traces, by hand, first items, of which a reset is no instant, and how a run over a trace ends.
use Rattle.std.proofs.Common.{◌≡◌, ℕ, Bool, true, false, List, [], ◌∷◌, None, Some, Ok, Err, codes, refl, arith, lit≤}
use Rattle.std.proofs.lemmas.List.Elements.{All-nil}
use Rattle.base_types.specs.Items.{Item, Event, Reset}
use Rattle.base_types.specs.Relations.{Meets, MeetsAll}
use Rattle.base_types.specs.SinkChanges.{SinkChange}
use Rattle.run_trace_io.specs.Answers.{IsTrace, beginning}
use Rattle.run_trace_io.specs.Traces.{Reading}
use Rattle.run_trace_io.specs.declared.faults.TraceFault.{TraceFault}
use Rattle.run_over_traces.specs.Running.{IsTraceFront, RunsTrace}
use Rattle.run_over_traces.specs.declared.running.RunFault.TheVariants.{Trace, Write, NoMemory}

abbrev trace : Reading
trace = beginning (codes "A;!reset;;") (codes "A" ∷ []) []

none_kept : (given : List Bool) → MeetsAll [] given
none_kept given = All-nil (Meets given)

nothing : IsTraceFront trace []
nothing = tt

one_instant : IsTraceFront trace (Event (true ∷ []) ∷ [])
one_instant = (2, refl, none_kept (true ∷ []), tt)

behind_a_reset : IsTraceFront trace (Event (true ∷ []) ∷ Reset ∷ Event (false ∷ []) ∷ [])
behind_a_reset = (2, refl, none_kept (true ∷ []), (9, refl, (10, refl, none_kept (false ∷ []), tt)))

-- ---- how runs end, where all items bring about 1

abbrev Writes : List Item → List ℕ → Type 0
Writes items text = text ≡ 1 ∷ []

-- a sink of nothing that gains these bytes, and counts this number of faults more
abbrev gains : List ℕ → ℕ → SinkChange
gains bytes faults = record { before = Some []; after = Some bytes; faults_before = 0; faults_now = faults }

done : (items : List Item) → IsTrace trace items None → RunsTrace Writes trace (gains (1 ∷ []) 0) (Ok tt)
done items whole = (items, 1 ∷ [], whole, refl, record { faults = refl; whole = refl })

not_with_a_failed_write : RunsTrace Writes trace (gains (1 ∷ []) 1) (Ok tt) → ⊥
not_with_a_failed_write h = let e = h.4.faults in omega (arith, e)

of_the_whole_trace : (s : SinkChange) (h : RunsTrace Writes trace s (Ok tt)) → IsTrace trace h.0 None
of_the_whole_trace s h = h.2

before_a_fault : (items : List Item) (fault : TraceFault) → IsTrace trace items (Some fault)
    → RunsTrace Writes trace (gains (1 ∷ []) 0) (Err (Trace fault))
before_a_fault items fault faulty = (items, 1 ∷ [], faulty, refl, record { faults = refl; whole = refl })

of_the_first_fault : (s : SinkChange) (fault : TraceFault) (h : RunsTrace Writes trace s (Err (Trace fault))) → IsTrace trace h.0 (Some fault)
of_the_first_fault s fault h = h.2

-- a prefix of what the first items bring about
after_a_failed_write : RunsTrace Writes trace (gains [] 1) (Err Write)
after_a_failed_write = (
  [],
  1 ∷ [],
  tt,
  refl,
  record { faults = record { kept = lit≤ tt; more = lit≤ tt }; front = record { taken = 0; gains = refl } },
)

no_failed_write_without_its_count : RunsTrace Writes trace (gains [] 0) (Err Write) → ⊥
no_failed_write_without_its_count h = let more = h.4.faults.more in omega (arith, more)

for_want_of_memory : RunsTrace Writes trace (gains [] 0) (Err NoMemory)
for_want_of_memory = ([], 1 ∷ [], tt, refl, refl, record { taken = 0; gains = refl })

no_fault_for_want_of_memory : RunsTrace Writes trace (gains [] 1) (Err NoMemory) → ⊥
no_fault_for_want_of_memory h = let e = h.4 in omega (arith, e)

of_first_items : (s : SinkChange) → ((h : RunsTrace Writes trace s (Err Write)) → IsTraceFront trace h.0)
    × ((h : RunsTrace Writes trace s (Err NoMemory)) → IsTraceFront trace h.0)
of_first_items s = (λ h. h.2, λ h. h.2)
