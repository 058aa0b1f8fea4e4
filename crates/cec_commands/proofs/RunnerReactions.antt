-- A runner of a graph over the items of a trace: what one item brings, what all so far brought, and where it stops.
use Rattle.std.proofs.Common.{◌≡◌, ℕ, ◌+◌, ◌<◌, ◌≤◌, Bool, List, [], ◌∷◌, ◌++◌, length, map, Option, Ok, Err}
use Rattle.std.proofs.Common.{refl, sym, ap, ◌∙◌, subst, append-nil, arith}
use Rattle.std.proofs.lemmas.List.{map-append}
use Rattle.std.proofs.lemmas.List.FromFn.{length-map-range_with_len}
use Rattle.base_types.specs.Items.{Item, Event, Reset}
use Rattle.base_types.specs.Relations.{MeetsAll}
use Rattle.base_types.specs.SinkChanges.{SinkChange, IsUntouched}
use Rattle.base_types.specs.Writing.{Appends, Gains}
use Rattle.base_types.proofs.Exports.{appends-nothing, appends-twice}
use Rattle.est_kernel.specs.Plain.{Program, interface_of, outgoing_count, outgoing_names, program_of}
use Rattle.est_kernel.specs.Reactions.{Answer, before, run_from}
use Rattle.grc_graph.specs.declared.graph.Graph.{Graph}
use Rattle.grc_graph.specs.BuiltGraphs.{IsGraphOf}
use Rattle.grc_graph.specs.PlainGraphs.{names_of}
use Rattle.grc_graph.specs.Walk.{Initial, remaining}
use Rattle.grc_graph.specs.WireNames.{WireName, wire_name}
use Rattle.grc_graph.specs.Wires.{Out}
use Rattle.grc_ternary.specs.LeastSolutions.{true_wires}
use Rattle.run_trace_io.specs.Lines.{line}
use Rattle.run_trace_io.specs.Traces.{Reading, next_group}
use Rattle.run_trace_io.specs.Traces as groups
use Rattle.run_over_traces.specs.Languages.{word_of}
use Rattle.run_over_traces.specs.Machines as machines
use Rattle.run_over_traces.specs.Machines.{Answered, Brings, answer_lines}
use Rattle.run_over_traces.specs.Steps.{Led, Leads, LineCame}
use Rattle.run_over_traces.proofs.Exports.{Fits, fits-next, front-leads, leads-more, SoFar, over, run-stops, step-event, lines-of}
use Rattle.grc_ternary_run.specs.Runners.{Resets, Runner, Steps, program_in, state_in}
use Rattle.grc_ternary_stops.specs.MarkedWires.{marked_of}
use Rattle.grc_ternary_stops.specs.Reaches.{Reacted, Reaches, Stuck, all_before}
use Rattle.grc_ternary_stops.proofs.Exports.{before_some, reaches_event, reaches_more, reaches_nowhere, reaches_reset, stopped}
use Rattle.cec_commands.specs.declared.reactions.ReactionFault.{ReactionFault}
use Rattle.cec_commands.specs.declared.reactions.ReactionFault.TheVariants.{Run, NotConstructive}
use Rattle.cec_commands.specs.ReactionSteps.{IsReaction, IsReactionStep, OneItem, RunnerShows, RunsReactions, StopsRunner}
use Rattle.cec_commands.specs.Runs.{ShowsRun, line_answer}
use Rattle.cec_commands.specs.TriRuns.{StopsTrace, event_count}

-- ---- what is shown

led_by : (old new : Runner) (items : List Item) (answers : List Answer) → Reaches old items answers new
    → Led RunnerShows old items (map line_answer answers) new
led_by old new items answers a = record {
  in_front = λ more behind h. record {
    answers = answers ++ h.answers;
    constructive = a.told more ∙ ap (all_before answers) h.constructive ∙ before_some answers h.answers;
    told = ap (λ l. map line_answer answers ++ l) h.told ∙ sym (map-append line_answer answers h.answers);
  };
}

-- what a line shows of a reaction
line_reacted : (old new : Runner) (event : List Bool) (paused : Bool) (re : Reacted old event paused new)
    → line_answer re.reacts.reaction.answer ≡ record { present = new.outputs; word = word_of paused }
line_reacted old new event paused re = λ i. record { present = sym re.reacts.outputs i; word = word_of (sym re.reacts.paused_is i) }

pub answered_by : (old new : Runner) (event : List Bool) (paused : Bool) → Reacted old event paused new
    → Answered RunnerShows old event (record { present = new.outputs; word = word_of paused }) new
answered_by old new event paused re = record {
  in_front = λ items answers h.
      subst (λ (a : machines.ShownAnswer). RunnerShows old (Event event ∷ items) (a ∷ answers)) (line_reacted old new event paused re)
      ((led_by old new (Event event ∷ []) (re.reacts.reaction.answer ∷ []) (reaches_event old new event paused re)).in_front items answers h);
}

pub none_shown : (r : Runner) → RunnerShows r [] []
none_shown r = record { answers = []; constructive = refl; told = refl }

-- ---- one item

-- the place behind an event or a reset
behind_at : (r later : Reading) (behind instant : ℕ) → later ≡ record r { at = behind; instant = instant } → r.at < behind → behind ≤ length r.text
    → (r.at < later.at) × (later.at ≤ length later.text)
behind_at r later behind instant same low high = (
  subst (λ (q : Reading). r.at < q.at) (sym same) low,
  subst (λ (q : Reading). q.at ≤ length q.text) (sym same) high,
)

pub item_reset : (names : List (List ℕ)) (r later : Reading) (old new : Runner) (told : Option (List ℕ)) (faults behind : ℕ) → r.at ≤ length r.text
    → next_group r ≡ groups.Reset behind → later ≡ record r { at = behind } → Resets old new
    → OneItem names r later old new (over told told faults faults)
item_reset names r later old new told faults behind within is same back =
    let fits = subst (Fits r.at (length r.text) (length r.inputs)) is (fits-next r within) in
    let at = behind_at r later behind r.instant same fits.0 fits.1 in
    record {
      item = Reset;
      answers = [];
      leads = (behind, is, same);
      reaches = reaches_reset old new back;
      came = appends-nothing told faults;
      behind = at.0;
      within = at.1;
    }

pub item_event : (names : List (List ℕ)) (r later : Reading) (old new : Runner) (s : SinkChange) (event : List Bool) (behind : ℕ) (paused : Bool)
    → r.at ≤ length r.text
    → next_group r ≡ groups.Instant event behind → MeetsAll r.relations event → later ≡ record r { at = behind; instant = r.instant + 1 }
    → Reacted old event paused new → LineCame s (line names new.outputs (word_of paused)) (Ok tt) → OneItem names r later old new s
item_event names r later old new s event behind paused within is meets same re came =
    let fits = subst (Fits r.at (length r.text) (length r.inputs)) is (fits-next r within) in
    let at = behind_at r later behind (r.instant + 1) same fits.0 fits.1 in
    let text = line names new.outputs (word_of paused) in
    let lines : text ≡ answer_lines names (line_answer re.reacts.reaction.answer ∷ []) = sym (append-nil text)
    ∙ ap (λ a. answer_lines names (a ∷ [])) (sym (line_reacted old new event paused re)) in
    record {
      item = Event event;
      answers = re.reacts.reaction.answer ∷ [];
      leads = (behind, is, meets, same);
      reaches = reaches_event old new event paused re;
      came = subst (Appends s.before s.after s.faults_before s.faults_now) lines came;
      behind = at.0;
      within = at.1;
    }

-- an event behind which nothing more is run: its line did not come, or it has no reaction
pub item_stops : (names : List (List ℕ)) (r later : Reading) (old new : Runner) (s : SinkChange) (event : List Bool) (behind instant : ℕ)
    (fault : ReactionFault)
    → r.at ≤ length r.text
    → next_group r ≡ groups.Instant event behind → MeetsAll r.relations event → later ≡ record r { at = behind; instant = r.instant + 1 }
    → instant ≡ r.instant → IsReaction names event instant old new s (Err fault) → IsReactionStep names r later old new s (Err fault)
item_stops names r later old new s event behind instant (Run fault) within is meets same counted came =
    step-event RunnerShows names r later old new s (Err fault) event behind (record { present = new.outputs; word = word_of came.0 }) within is meets same
    (answered_by old new event came.0 came.1) came.2
item_stops names r later old new s event behind instant (NotConstructive number) within is meets same counted came =
    (event, behind, is, meets, came.0 ∙ counted, came.1, came.2)

-- a reaction tells each outgoing signal
pub outputs_wide : (old new : Runner) (event : List Bool) (paused : Bool) → Steps old event paused new → length new.outputs ≡ outgoing_count (program_in old)
outputs_wide old new event paused s =
    ap length s.outputs
    ∙ length-map-range_with_len (λ o. true_wires s.statuses (Out o)) (program_in old).inputs (outgoing_count (program_in old))

-- ---- all items so far

pub record ReachedSoFar (names : List (List ℕ)) (r later : Reading) (old new : Runner) (a b : Option (List ℕ)) (f g : ℕ) : Type 0 where
  pub items : List Item
  pub answers : List Answer
  pub leads : Leads r items later
  pub reaches : Reaches old items answers new
  pub came : Appends a b f g (answer_lines names (map line_answer answers))

pub nothing_yet : (names : List (List ℕ)) (r : Reading) (s : Runner) (told : Option (List ℕ)) (f : ℕ) → ReachedSoFar names r r s s told told f f
nothing_yet names r s told f = record { items = []; answers = []; leads = refl; reaches = reaches_nowhere s; came = appends-nothing told f }

pub one_item_more : (names : List (List ℕ)) (r q p : Reading) (s t u : Runner) (a b c : Option (List ℕ)) (f g h : ℕ) → ReachedSoFar names r q s t a b f g
    → OneItem names q p t u (over b c g h) → ReachedSoFar names r p s u a c f h
one_item_more names r q p s t u a b c f g h so one =
    let lines = ap (answer_lines names) (map-append line_answer so.answers one.answers)
    ∙ lines-of names (map line_answer so.answers) (map line_answer one.answers) in
    record {
      items = so.items ++ one.item ∷ [];
      answers = so.answers ++ one.answers;
      leads = leads-more r q p so.items (one.item ∷ []) so.leads one.leads;
      reaches = reaches_more s t u so.items (one.item ∷ []) so.answers one.answers so.reaches one.reaches;
      came = subst (λ x. Appends a c f h x) (sym lines) (appends-twice a b c f g h _ _ so.came one.came);
    }

-- the same of what is shown
pub shown_so_far : (names : List (List ℕ)) (r q : Reading) (s t : Runner) (a b : Option (List ℕ)) (f g : ℕ) → ReachedSoFar names r q s t a b f g
    → SoFar RunnerShows names r q s t a b f g
shown_so_far names r q s t a b f g so = record {
  items = so.items;
  answers = map line_answer so.answers;
  leads = so.leads;
  led = led_by s t so.items so.answers so.reaches;
  came = so.came;
}

-- ---- where it stops

-- the number of an instant counts the events before it
events_counted : (r later : Reading) (items : List Item) → Leads r items later → later.instant ≡ r.instant + event_count items
events_counted r later [] a = ap (λ (q : Reading). q.instant) a ∙ omega arith
events_counted r later (Reset ∷ items) a = events_counted (record r { at = a.0 }) later items a.2
events_counted r later (Event event ∷ items) a =
    let rest = events_counted (record r { at = a.0; instant = r.instant + 1 }) later items a.3 in
    omega (arith, rest)

pub stops_there : (names : List (List ℕ)) (first r q : Reading) (s t u : Runner) (a b c : Option (List ℕ)) (f g h : ℕ) (event : List Bool) (behind number : ℕ)
    → r ≡ first → ReachedSoFar names r q s t a b f g → next_group q ≡ groups.Instant event behind → MeetsAll q.relations event → number ≡ q.instant
    → Stuck t event u → IsUntouched (over b c g h) → StopsRunner names first s u (over a c f h) number
stops_there names first r q s t u a b c f g h event behind number same so is meets counted stuck still =
    subst (λ x. StopsRunner names x s u (over a c f h) number) same (record {
      items = so.items;
      event = event;
      front =
          front-leads r (record q { at = behind; instant = q.instant + 1 }) (so.items ++ Event event ∷ [])
          (leads-more r q (record q { at = behind; instant = q.instant + 1 }) so.items (Event event ∷ []) so.leads (behind, is, meets, refl));
      counted = counted ∙ events_counted r q so.items so.leads;
      answers = so.answers;
      last = t;
      reaches = so.reaches;
      stuck = stuck;
      came = record {
        faults = still.1 ∙ so.came.faults;
        whole = subst (λ x. Gains a x (answer_lines names (map line_answer so.answers))) (sym still.0) so.came.whole;
      };
    })

-- the last item of a run that is cut off
pub run_cut_off : (names : List (List ℕ)) (first r q p : Reading) (s t u : Runner) (a b c : Option (List ℕ)) (f g h : ℕ) (fault : ReactionFault) → r ≡ first
    → ReachedSoFar names r q s t a b f g → IsReactionStep names q p t u (over b c g h) (Err fault) → RunsReactions names first s u (over a c f h) (Err fault)
run_cut_off names first r q p s t u a b c f g h (Run fault) same so step =
    run-stops RunnerShows names first r q p s t u (none_shown u) a b c f g h fault same (shown_so_far names r q s t a b f g so) step
run_cut_off names first r q p s t u a b c f g h (NotConstructive number) same so step =
    stops_there names first r q s t u a b c f g h step.0 step.1 number same so step.2 step.3 step.4 step.5 step.6

-- ---- what it is for the program

pub shows_program : (r : Runner) (p : Program) (items : List Item) (text : List ℕ) → program_in r ≡ p → state_in r ≡ Initial
    → Brings RunnerShows (outgoing_names p) r items text → ShowsRun p items text
shows_program r p items text whose first b = record {
  answers = b.shown.answers;
  constructive =
      (λ i. run_from (interface_of (sym whose i)) (sym whose i).body (remaining (sym first i) (sym whose i).body) items) ∙ b.shown.constructive;
  lines = b.lines ∙ ap (answer_lines (outgoing_names p)) b.shown.told;
}

-- a runner of a program's graph that stops at an event
pub stops_program : (g : Graph) (old new : Runner) (trace : Reading) (s : SinkChange) (number : ℕ) (shown : List WireName) → IsGraphOf g (program_of g.program)
    → old.graph ≡ g → state_in old ≡ Initial → StopsRunner (outgoing_names (program_of g.program)) trace old new s number
    → shown ≡ map (wire_name (program_of g.program)) (marked_of new.unknown (names_of g))
    → StopsTrace (program_of g.program) trace s number shown
stops_program g old new trace s number shown is same first o named =
    let p = program_of g.program in
    let stop = stopped g old o.last new o.items o.answers o.event is same first o.reaches o.stuck in
    record {
      items = o.items;
      event = o.event;
      front = o.front;
      number = o.counted;
      unknown = marked_of new.unknown (names_of g);
      stops = stop.0;
      named = named;
      lines = subst (λ answers. Appends s.before s.after s.faults_before s.faults_now (answer_lines (outgoing_names p) (map line_answer answers)))
          (sym stop.1) o.came;
    }
