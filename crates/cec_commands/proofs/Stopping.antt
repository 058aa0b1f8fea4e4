-- Runs by three-valued reactions over a trace that comes to an instant that is not constructive: they stop there.
use Rattle.std.proofs.Common.{◌≡◌, ℕ, ◌+◌, ◌⊎◌, Bool, List, [], ◌∷◌, ◌++◌, length, map, Option, None, Some, Ok, Err, inl, inr, refl, sym, ap, ◌∙◌}
use Rattle.std.proofs.Common.{subst, ⊎_elim, append-nil, arith}
use Rattle.std.proofs.lemmas.List.{length-append}
use Rattle.base_types.specs.Items.{Item, Event, Reset}
use Rattle.base_types.specs.SinkChanges.{SinkChange}
use Rattle.est_kernel.specs.Plain.{Program, given_names, interface_of}
use Rattle.est_kernel.specs.Reactions.{Answer, run_of}
use Rattle.grc_graph.specs.PlainWireNames.{wire_name_of}
use Rattle.est_front.proofs.Exports.{one_program}
use Rattle.est_front.proofs.Unrefused as front
use Rattle.run_trace_io.specs.declared.faults.TraceFault.{TraceFault}
use Rattle.run_trace_io.specs.Answers.{IsTrace, beginning}
use Rattle.run_trace_io.specs.Traces.{Reading}
use Rattle.run_over_traces.specs.declared.running.RunFault.TheVariants as runs
use Rattle.run_over_traces.specs.Running.{IsTraceFront, RunsTrace}
use Rattle.run_over_traces.proofs.Exports.{front-of}
use Rattle.cec_commands.specs.declared.outcome.Outcome.{Outcome}
use Rattle.cec_commands.specs.declared.outcome.Outcome.TheVariants.{Done, Usage, FileFault, Static, Cyclic, Trace, BadText, Limit, WriteFault, NoMemory}
use Rattle.cec_commands.specs.declared.outcome.Outcome.TheVariants.{NotConstructive}
use Rattle.cec_words.specs.declared.common.Which.{Which}
use Rattle.cec_words.specs.declared.common.Which.TheVariants.{First}
use Rattle.cec_commands.specs.declared.unknown_wires.UnknownWires.{UnknownWires}
use Rattle.cec_commands.specs.Accepted.{ComesToStop}
use Rattle.cec_commands.specs.Jobs.{Job, RunTri}
use Rattle.cec_commands.specs.Laws.{StoppingRunsAreTold}
use Rattle.cec_commands.specs.Outcomes.{GainsOut}
use Rattle.cec_commands.specs.Runs.{ShowsRun}
use Rattle.cec_commands.specs.TriRuns.{ReactsOn, ReactsOver, StopsOver, StopsTrace, event_count}
use Rattle.cec_commands.proofs.Accepting.{OnTwo, no_file_fault, no_write_fault, none_behind, on_two, react_limit}

-- ---- the first items of a trace, of which one list begins the other

abbrev Begins : List Item → List Item → Type 0
Begins first items = (more : List Item) × (items ≡ first ++ more)

behind_item : (x : Item) (items others : List Item) → Begins items others ⊎ Begins others items
    → Begins (x ∷ items) (x ∷ others) ⊎ Begins (x ∷ others) (x ∷ items)
behind_item x items others b =
    ⊎_elim (λ m. inl (m.0, ap (λ l. x ∷ l) m.1)) (λ m. inr (m.0, ap (λ l. x ∷ l) m.1)) b

fronts_meet : (r : Reading) (items others : List Item) → IsTraceFront r items → IsTraceFront r others → Begins items others ⊎ Begins others items
fronts_meet r [] others f h = inl (others, refl)
fronts_meet r (x ∷ items) [] f h = inr (x ∷ items, refl)
fronts_meet r (Reset ∷ items) (Reset ∷ others) f h =
    let both = sym f.1 ∙ h.1 in
    let same : h.0 ≡ f.0 = cc both in
    behind_item Reset items others (fronts_meet (record r { at = f.0 }) items others f.2 (subst (λ b. IsTraceFront (record r { at = b }) others) same h.2))
fronts_meet r (Reset ∷ items) (Event other ∷ others) f h = let both = sym f.1 ∙ h.1 in cc
fronts_meet r (Event event ∷ items) (Reset ∷ others) f h = let both = sym f.1 ∙ h.1 in cc
fronts_meet r (Event event ∷ items) (Event other ∷ others) f h =
    let both = sym f.1 ∙ h.1 in
    let same : h.0 ≡ f.0 = cc both in
    let alike : other ≡ event = cc both in
    let rest = behind_item (Event event) items others
    (fronts_meet (record r { at = f.0; instant = r.instant + 1 }) items others f.3
    (subst (λ b. IsTraceFront (record r { at = b; instant = r.instant + 1 }) others) same h.3)) in
    subst (λ e. Begins (Event event ∷ items) (Event e ∷ others) ⊎ Begins (Event e ∷ others) (Event event ∷ items)) (sym alike) rest

-- ---- one stop

-- what begins a list and is shorter begins it without its last item
without_last : (first items : List Item) (x y : Item) (more : List Item) → items ++ x ∷ [] ≡ first ++ (y ∷ more) → Begins first items
without_last [] items x y more e = (items, refl)
without_last (z ∷ first) [] x y more e =
    let count = ap (λ (l : List Item). length l) e in
    absurd (omega (arith, count, length-append first (y ∷ more)))
without_last (z ∷ first) (w ∷ items) x y more e =
    let same : w ≡ z = cc e in
    let rest : items ++ x ∷ [] ≡ first ++ (y ∷ more) = cc e in
    let found = without_last first items x y more rest in
    (found.0, ap (λ i. i ∷ items) same ∙ ap (λ l. z ∷ l) found.1)

events_joined : (items others : List Item) → event_count (items ++ others) ≡ event_count items + event_count others
events_joined [] others = omega arith
events_joined (Event event ∷ items) others = let rest = events_joined items others in omega (arith, rest)
events_joined (Reset ∷ items) others = events_joined items others

one_more : (items : List Item) (event : List Bool) → event_count (items ++ Event event ∷ []) ≡ event_count items + 1
one_more items event = events_joined items (Event event ∷ [])

-- where a run stops: it has answers to some items, and none with the event behind them
record StopsHere (p : Program) (items : List Item) (event : List Bool) : Type 0 where
  answers : List Answer
  constructive : run_of p items ≡ Some answers
  stops : run_of p (items ++ Event event ∷ []) ≡ None

-- a list that begins another one, where the run has stopped before
not_behind : (p : Program) (items others : List Item) (event other : List Bool) → StopsHere p items event → StopsHere p others other
    → Begins (items ++ Event event ∷ []) (others ++ Event other ∷ []) → event_count others ≡ event_count items
not_behind p items others event other a b ([], e) =
    let same = e ∙ append-nil (items ++ Event event ∷ []) in
    let counts = ap event_count same in
    omega (arith, counts, one_more items event, one_more others other)
not_behind p items others event other a b (y ∷ more, e) =
    let found = without_last (items ++ Event event ∷ []) others (Event other) y more e in
    let none = none_behind (interface_of p) p.body p.body (items ++ Event event ∷ []) found.0 a.stops in
    let both : None ≡ Some b.answers = sym none ∙ ap (run_of p) (sym found.1) ∙ b.constructive in
    cc

one_stop : (p : Program) (r : Reading) (items others : List Item) (event other : List Bool) → StopsHere p items event → StopsHere p others other
    → IsTraceFront r (items ++ Event event ∷ []) → IsTraceFront r (others ++ Event other ∷ []) → event_count others ≡ event_count items
one_stop p r items others event other a b f h =
    ⊎_elim (not_behind p items others event other a b) (λ m. sym (not_behind p others items other event b a m))
    (fronts_meet r (items ++ Event event ∷ []) (others ++ Event other ∷ []) f h)

-- a run that goes past a stop has no answers
run_past : (p : Program) (r : Reading) (items others : List Item) (event : List Bool) (end : Option TraceFault) (answers : List Answer)
    → IsTraceFront r (items ++ Event event ∷ []) → run_of p (items ++ Event event ∷ []) ≡ None → IsTrace r others end → run_of p others ≡ Some answers → ⊥
run_past p r items others event end answers f none t some =
    let first = items ++ Event event ∷ [] in
    let more = front-of r first others end f t in
    let over = none_behind (interface_of p) p.body p.body first more.0 none in
    let both : None ≡ Some answers = sym over ∙ ap (run_of p) (sym more.1) ∙ some in
    cc

-- ---- the command

abbrev Told : (stop : ℕ) (outcome : Outcome) → Type 0
Told stop outcome = ((wires : UnknownWires) × (outcome ≡ NotConstructive wires) × (wires.instant ≡ 1 + stop)) ⊎ (outcome ≡ NoMemory)

-- what the lines of a whole run would be
over_whole : (main : Option (List ℕ)) (bytes trace : List ℕ) (s : SinkChange) → ComesToStop main bytes trace → ReactsOver main bytes trace s (Ok tt) → ⊥
over_whole main bytes trace s w r =
    let p = w.source.program in
    let same : r.program ≡ p = one_program bytes main r.program p r.source w.source.source in
    let ran = subst (λ (q : Program). RunsTrace (ShowsRun q) (beginning trace (given_names q) q.relations) s (Ok tt)) same r.ran in
    run_past p (beginning trace (given_names p) p.relations) w.items ran.0 w.event None ran.3.answers w.front w.stops ran.2 ran.3.constructive

over_fault : (main : Option (List ℕ)) (bytes trace : List ℕ) (s : SinkChange) (fault : TraceFault) → ComesToStop main bytes trace
    → ReactsOver main bytes trace s (Err (runs.Trace fault)) → ⊥
over_fault main bytes trace s fault w r =
    let p = w.source.program in
    let same : r.program ≡ p = one_program bytes main r.program p r.source w.source.source in
    let ran = subst (λ (q : Program). RunsTrace (ShowsRun q) (beginning trace (given_names q) q.relations) s (Err (runs.Trace fault))) same r.ran in
    run_past p (beginning trace (given_names p) p.relations) w.items ran.0 w.event (Some fault) ran.3.answers w.front w.stops ran.2 ran.3.constructive

stop_told : (main : Option (List ℕ)) (bytes trace : List ℕ) (s : SinkChange) (wires : UnknownWires) → (w : ComesToStop main bytes trace)
    → StopsOver main bytes trace s wires.instant (map wire_name_of wires.wires.items) → wires.instant ≡ 1 + event_count w.items
stop_told main bytes trace s wires w o =
    let p = w.source.program in
    let same : o.program ≡ p = one_program bytes main o.program p o.source w.source.source in
    let reading = beginning trace (given_names p) p.relations in
    let stopped = subst (λ (q : Program). StopsTrace q (beginning trace (given_names q) q.relations) s wires.instant (map wire_name_of wires.wires.items)) same
    o.stopped in
    let here : StopsHere p w.items w.event = record { answers = w.answers; constructive = w.constructive; stops = w.stops } in
    let there : StopsHere p stopped.items stopped.event =
    record { answers = stopped.stops.answers; constructive = stopped.stops.constructive; stops = stopped.stops.stops } in
    let counts = one_stop p reading w.items stopped.items w.event stopped.event here there w.front stopped.front in
    stopped.number ∙ ap (λ n. 1 + n) counts

stop_end : (job : Job) (held : List ℕ → List ℕ) (trace : List ℕ) (outcome : Outcome) (s : SinkChange)
    → (w : ComesToStop job.main (held job.name) (held trace)) → OnTwo held job.name trace (ReactsOn job.main) outcome
    → ((file : Which) → outcome ≡ FileFault file → ⊥) → (outcome ≡ WriteFault → ⊥) → GainsOut (Some (RunTri job trace)) (Some held) outcome s
    → Told (event_count w.items) outcome
stop_end job held trace Done s w on unread written g =
    absurd (over_whole job.main (held job.name) (held trace) s w
    (subst (λ i. ReactsOver job.main (held job.name) i s (Ok tt)) g.2.1 (subst (λ b. ReactsOver job.main b g.2.0 s (Ok tt)) g.1 g.2.2)))
stop_end job held trace Usage s w on unread written g = absurd on.on
stop_end job held trace (FileFault file) s w on unread written g = absurd (unread file refl)
stop_end job held trace (Static fault) s w on unread written g =
    absurd (front.no_fault (held job.name) job.main w.source.program fault w.source.source on.on.refused)
stop_end job held trace (Cyclic cycle) s w on unread written g = absurd on.on
stop_end job held trace (Trace fault) s w on unread written g =
    absurd (over_fault job.main (held job.name) (held trace) s fault w
    (subst (λ i. ReactsOver job.main (held job.name) i s (Err (runs.Trace fault))) g.2.1
    (subst (λ b. ReactsOver job.main b g.2.0 s (Err (runs.Trace fault))) g.1 g.2.2)))
stop_end job held trace (BadText fault) s w on unread written g = absurd on.on
stop_end job held trace (Limit quantity) s w on unread written g = absurd (react_limit job.main held job.name trace quantity w.source w.short on.on on.long)
stop_end job held trace WriteFault s w on unread written g = absurd (written refl)
stop_end job held trace NoMemory s w on unread written g = inr refl
stop_end job held trace (NotConstructive wires) s w on unread written g =
    let names = map wire_name_of wires.wires.items in
    inl (
      wires,
      refl,
      stop_told job.main (held job.name) (held trace) s wires w
          (subst (λ i. StopsOver job.main (held job.name) i s wires.instant names) g.2.1
          (subst (λ b. StopsOver job.main b g.2.0 s wires.instant names) g.1 g.2.2)),
    )

pub stopping_told : StoppingRunsAreTold
stopping_told job trace held outcome before now failed_before failed_now s w agrees counts stays gains still =
    let request = RunTri job trace in
    ⊎_elim (λ is. absurd (no_file_fault request outcome before now failed_before failed_now First counts stays is))
    (λ on. stop_end job held trace outcome s w on (λ file. no_file_fault request outcome before now failed_before failed_now file counts stays)
    (no_write_fault request (Some held) outcome s gains still) gains)
    (on_two held job.name trace (ReactsOn job.main) outcome agrees)
