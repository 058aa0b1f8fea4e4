-- The first items of a trace are those of each run over it: what came of them is a prefix of what comes of all.
use Rattle.std.proofs.Common.{◌≡◌, ℕ, ◌+◌, ◌≤◌, min, Bool, List, [], ◌∷◌, ◌++◌, length, map, take, Option, Some, None, Result, Ok, Err}
use Rattle.std.proofs.Common.{refl, sym, ap, ◌∙◌, subst, append-nil, arith}
use Rattle.std.proofs.lemmas.List.{length-append, map-append, take_min, take-append-le}
use Rattle.std.proofs.lemmas.Grind.{flat_map-append}
use Rattle.base_types.specs.Items.{Item, Event, Reset}
use Rattle.base_types.specs.Relations.{Relation, Implies, MeetsAll}
use Rattle.base_types.specs.SinkChanges.{SinkChange}
use Rattle.base_types.specs.Writing.{Gains, GainsFront, Appends}
use Rattle.net_ir.specs.Netlists.{Netlist}
use Rattle.net_ir.specs.Runs.{shown, net_values, next_latches, initial_latches, values_from}
use Rattle.run_trace_io.specs.declared.faults.TraceFault.{TraceFault}
use Rattle.run_trace_io.specs.declared.faults.TraceFault.TheVariants as faults
use Rattle.run_trace_io.specs.Lines.{line}
use Rattle.run_trace_io.specs.Traces.{Reading, TraceGroup, End, Instant, Refused, next_group}
use Rattle.run_trace_io.specs.Traces as groups
use Rattle.run_trace_io.specs.Answers.{IsFault, IsTrace}
use Rattle.base_machines.specs.Machines.{Machine, IsRunFrom, Shows}
use Rattle.base_machines.proofs.Exports.{told-same}
use Rattle.run_over_traces.specs.declared.running.RunFault.{RunFault}
use Rattle.run_over_traces.specs.declared.running.RunFault.TheVariants.{Trace, Write, NoMemory}
use Rattle.run_over_traces.specs.Machines.{ShownAnswer, answer_lines}
use Rattle.run_over_traces.specs.Running.{IsTraceFront, RunsTrace}
use Rattle.run_over_traces.specs.Languages.{shown_answer, ShowsNet}
use Rattle.run_over_traces.specs.Laws.{Leaves, NetsAreWritten}

-- ---- groups of different kinds differ

abbrev kind : TraceGroup → ℕ
kind End = 0
kind (groups.Reset behind) = 1
kind (Instant event behind) = 2
kind (Refused fault) = 3

abbrev behind_of : TraceGroup → ℕ
behind_of End = 0
behind_of (groups.Reset behind) = behind
behind_of (Instant event behind) = behind
behind_of (Refused fault) = 0

abbrev event_of : TraceGroup → List Bool
event_of End = []
event_of (groups.Reset behind) = []
event_of (Instant event behind) = event
event_of (Refused fault) = []

differ : (g a b : TraceGroup) → g ≡ a → g ≡ b → kind a ≡ kind b
differ g a b p q = ap kind (sym p ∙ q)

fault-kind : (r : Reading) (fault : TraceFault) → IsFault r fault → 2 ≤ kind (next_group r)
fault-kind r (faults.BadByte place) is = omega (arith, ap kind is)
fault-kind r (faults.UnknownInput instant name) is = omega (arith, ap kind is)
fault-kind r (faults.Repeated instant name) is = omega (arith, ap kind is)
fault-kind r (faults.BadReset instant) is = omega (arith, ap kind is)
fault-kind r (faults.OpenInstant instant) is = omega (arith, ap kind is)
fault-kind r (faults.Breaks instant number) is = omega (arith, ap kind is.3)

-- an instant that meets every relation is no fault
no-fault : (r : Reading) (event : List Bool) (behind : ℕ) (fault : TraceFault) → next_group r ≡ Instant event behind → MeetsAll r.relations event
    → IsFault r fault → ⊥
no-fault r event behind (faults.BadByte place) g meets is =
    let e : 2 ≡ 3 = differ (next_group r) (Instant event behind) (Refused (faults.BadByte place)) g is in omega (arith, e)
no-fault r event behind (faults.UnknownInput instant name) g meets is =
    let e : 2 ≡ 3 = differ (next_group r) (Instant event behind) (Refused (faults.UnknownInput instant name)) g is in omega (arith, e)
no-fault r event behind (faults.Repeated instant name) g meets is =
    let e : 2 ≡ 3 = differ (next_group r) (Instant event behind) (Refused (faults.Repeated instant name)) g is in omega (arith, e)
no-fault r event behind (faults.BadReset instant) g meets is =
    let e : 2 ≡ 3 = differ (next_group r) (Instant event behind) (Refused (faults.BadReset instant)) g is in omega (arith, e)
no-fault r event behind (faults.OpenInstant instant) g meets is =
    let e : 2 ≡ 3 = differ (next_group r) (Instant event behind) (Refused (faults.OpenInstant instant)) g is in omega (arith, e)
no-fault r event behind (faults.Breaks instant number) g meets is =
    let same : event ≡ is.0 = ap event_of (sym g ∙ is.3) in
    let any : Relation = Implies 0 0 in
    is.6.broken any (subst (λ e. MeetsAll r.relations e) same meets is.2 any is.6.within)

-- ---- the first items of a trace

pub front-of : (r : Reading) (front items : List Item) (end : Option TraceFault) → IsTraceFront r front → IsTrace r items end
    → (more : List Item) × (items ≡ front ++ more)
front-of r [] items end f t = (items, refl)
front-of r (Reset ∷ front) [] None f t = let e : 1 ≡ 0 = differ (next_group r) (groups.Reset f.0) End f.1 t in absurd (omega (arith, e))
front-of r (Reset ∷ front) [] (Some fault) f t =
    let e : kind (next_group r) ≡ 1 = ap kind f.1 in absurd (omega (arith, e, fault-kind r fault t))
front-of r (Reset ∷ front) (Reset ∷ items) end f t =
    let same : t.0 ≡ f.0 = ap behind_of (sym t.1 ∙ f.1) in
    let more = front-of (record r { at = f.0 }) front items end f.2 (subst (λ b. IsTrace (record r { at = b }) items end) same t.2) in
    (more.0, ap (λ l. Reset ∷ l) more.1)
front-of r (Reset ∷ front) (Event event ∷ items) end f t =
    let e : 1 ≡ 2 = differ (next_group r) (groups.Reset f.0) (Instant event t.0) f.1 t.1 in absurd (omega (arith, e))
front-of r (Event event ∷ front) [] None f t =
    let e : 2 ≡ 0 = differ (next_group r) (Instant event f.0) End f.1 t in absurd (omega (arith, e))
front-of r (Event event ∷ front) [] (Some fault) f t = absurd (no-fault r event f.0 fault f.1 f.2 t)
front-of r (Event event ∷ front) (Reset ∷ items) end f t =
    let e : 2 ≡ 1 = differ (next_group r) (Instant event f.0) (groups.Reset t.0) f.1 t.1 in absurd (omega (arith, e))
front-of r (Event event ∷ front) (Event other ∷ items) end f t =
    let same : t.0 ≡ f.0 = ap behind_of (sym t.1 ∙ f.1) in
    let alike : other ≡ event = ap event_of (sym t.1 ∙ f.1) in
    let rest = subst (λ b. IsTrace (record r { at = b; instant = r.instant + 1 }) items end) same t.3 in
    let more = front-of (record r { at = f.0; instant = r.instant + 1 }) front items end f.3 rest in
    (more.0, ap (λ e. Event e ∷ items) alike ∙ ap (λ l. Event event ∷ l) more.1)

pub front-whole : (r : Reading) (items : List Item) (end : Option TraceFault) → IsTrace r items end → IsTraceFront r items
front-whole r [] end t = tt
front-whole r (Reset ∷ items) end t = (t.0, t.1, front-whole (record r { at = t.0 }) items end t.2)
front-whole r (Event event ∷ items) end t =
    (t.0, t.1, t.2, front-whole (record r { at = t.0; instant = r.instant + 1 }) items end t.3)

-- there is one trace from a reading on
one-trace : (r : Reading) (items others : List Item) (end other : Option TraceFault) → IsTrace r items end → IsTrace r others other → others ≡ items
one-trace r items others end other t u =
    let a = front-of r items others other (front-whole r items end t) u in
    let b = front-of r others items end (front-whole r others other u) t in
    closes a.0 a.1 (omega (arith, ap length a.1, ap length b.1, length-append items a.0, length-append others b.0))
  where
    closes : (more : List Item) → others ≡ items ++ more → length more ≡ 0 → others ≡ items
    closes [] e h = e ∙ append-nil items
    closes (x ∷ more) e h = absurd (omega (arith, h))

-- ---- a prefix of a text is one of each longer text

longer : (a b : Option (List ℕ)) (x y : List ℕ) → GainsFront a b x → GainsFront a b (x ++ y)
longer a b x y g =
    let t = min g.taken (length x) in
    let same : take t (x ++ y) ≡ take g.taken x = take-append-le t x y (omega arith) ∙ take_min g.taken x in
    record { taken = t; gains = subst (λ z. Gains a b z) (sym same) g.gains }

-- what grows with the items leaves the whole text, or a prefix of it
pub leaves : (W V : List Item → List ℕ → Type 0)
    → ((front more : List Item) (text whole : List ℕ) → W front text → V (front ++ more) whole → (rest : List ℕ) × (whole ≡ text ++ rest))
    → ((items : List Item) (text whole : List ℕ) → W items text → V items whole → whole ≡ text)
    → (r : Reading) (s : SinkChange) (result : Result (Unit {0}) RunFault) (items : List Item) (end : Option TraceFault) (whole : List ℕ)
    → RunsTrace W r s result → IsTrace r items end → V items whole → Leaves s whole result
leaves W V grows is r s (Ok done) items end whole runs t v =
    let same = one-trace r runs.0 items None end runs.2 t in
    subst (λ x. Appends s.before s.after s.faults_before s.faults_now x) (sym (is runs.0 runs.1 whole runs.3 (subst (λ l. V l whole) same v))) runs.4
leaves W V grows is r s (Err (Trace fault)) items end whole runs t v =
    let same = one-trace r runs.0 items (Some fault) end runs.2 t in
    subst (λ x. Appends s.before s.after s.faults_before s.faults_now x) (sym (is runs.0 runs.1 whole runs.3 (subst (λ l. V l whole) same v))) runs.4
leaves W V grows is r s (Err Write) items end whole runs t v =
    let more = front-of r runs.0 items end runs.2 t in
    let rest = grows runs.0 more.0 runs.1 whole runs.3 (subst (λ l. V l whole) more.1 v) in
    let longer_text = longer s.before s.after runs.1 rest.0 runs.4.front in
    record { faults = runs.4.faults; front = subst (λ x. GainsFront s.before s.after x) (sym rest.1) longer_text }
leaves W V grows is r s (Err NoMemory) items end whole runs t v =
    let more = front-of r runs.0 items end runs.2 t in
    let rest = grows runs.0 more.0 runs.1 whole runs.3 (subst (λ l. V l whole) more.1 v) in
    (runs.4, subst (λ x. GainsFront s.before s.after x) (sym rest.1) (longer s.before s.after runs.1 rest.0 runs.5))

-- ---- runs over more items

values-more : (net : Netlist) (latches : List Bool) (front more : List Item)
    → (rest : List (List Bool)) × (values_from net latches (front ++ more) ≡ values_from net latches front ++ rest)
values-more net latches [] more = (values_from net latches more, refl)
values-more net latches (Event inputs ∷ front) more =
    let values = net_values net latches inputs in
    let rest = values-more net (next_latches net values) front more in
    (rest.0, ap (λ l. values ∷ l) rest.1)
values-more net latches (Reset ∷ front) more = values-more net (initial_latches net) front more

pub lines-of : (names : List (List ℕ)) (a b : List ShownAnswer) → answer_lines names (a ++ b) ≡ answer_lines names a ++ answer_lines names b
lines-of names a b = flat_map-append (λ x. line names x.present x.word) a b

pub nets-are-written : NetsAreWritten
nets-are-written names net r s result items end runs t =
    leaves (ShowsNet names net) (ShowsNet names net) grows (λ list text whole a b. b ∙ sym a) r s result items end _ runs t refl
  where
    grows : (front more : List Item) (text whole : List ℕ) → ShowsNet names net front text → ShowsNet names net (front ++ more) whole
        → (rest : List ℕ) × (whole ≡ text ++ rest)
    grows front more text whole a b =
        let values = values-more net (initial_latches net) front more in
        let first = values_from net (initial_latches net) front in
        let answers = λ (l : List (List Bool)). map shown_answer (map (shown net) l) in
        let split : answers (first ++ values.0) ≡ answers first ++ answers values.0 =
        ap (map shown_answer) (map-append (shown net) first values.0) ∙ map-append shown_answer (map (shown net) first) (map (shown net) values.0) in (
          answer_lines names (answers values.0),
          b ∙ ap (λ l. answer_lines names (answers l)) values.1 ∙ ap (answer_lines names) split ∙ lines-of names (answers first) (answers values.0)
              ∙ ap (λ x. x ++ answer_lines names (answers values.0)) (sym a),
        )

-- a run of a machine over the first items, and the rest
record SplitRun {X : Type 0} (M : Machine X) (s : M.State) (front : List Item) (xs : List X) : Type 0 where
  first : List X
  rest : List X
  parts : xs ≡ first ++ rest
  run : IsRunFrom M s front first

split-run : {X : Type 0} (M : Machine X) (s : M.State) (front more : List Item) (xs : List X) → IsRunFrom M s (front ++ more) xs → SplitRun M s front xs
split-run M s [] more xs run = record { first = []; rest = xs; parts = refl; run = tt }
split-run M s (Event inputs ∷ front) more [] run = absurd run
split-run M s (Event inputs ∷ front) more (x ∷ xs) run =
    let rest = split-run M (M.next s inputs x) front more xs run.1 in
    record { first = x ∷ rest.first; rest = rest.rest; parts = ap (λ l. x ∷ l) rest.parts; run = (run.0, rest.run) }
split-run M s (Reset ∷ front) more xs run =
    let rest = split-run M M.start front more xs run in
    record { first = rest.first; rest = rest.rest; parts = rest.parts; run = rest.run }

-- what a machine shows to the first items is a front of what it shows to all
pub shown-front : {X V : Type 0} (M : Machine X) (see : X → V) (s : M.State) (front more : List Item) (few all : List V) → Shows M see s front few
    → Shows M see s (front ++ more) all → (rest : List V) × (all ≡ few ++ rest)
shown-front M see s front more few all a b =
    let split = split-run M s front more b.some_run.0 b.some_run.1 in (
      map see split.rest,
      b.each_run b.some_run.0 b.some_run.1 ∙ ap (map see) split.parts ∙ map-append see split.first split.rest
          ∙ ap (λ l. l ++ map see split.rest) (sym (a.each_run split.first split.run)),
    )

-- the lines of what a machine shows
pub record ShowsLines {X : Type 0} (M : Machine X) (see : X → ShownAnswer) (s : M.State) (names : List (List ℕ)) (items : List Item) (text : List ℕ) :
    Type 0 where
  pub answers : List ShownAnswer
  pub shown : Shows M see s items answers
  pub lines : text ≡ answer_lines names answers

-- a run over a trace leaves the lines of what a machine shows to the whole trace, or a prefix of them
pub shown-are-written : {X : Type 0} (M : Machine X) (see : X → ShownAnswer) (start : M.State) (names : List (List ℕ)) (r : Reading) (s : SinkChange)
    (result : Result (Unit {0}) RunFault) (items : List Item) (end : Option TraceFault) (answers : List ShownAnswer)
    → RunsTrace (ShowsLines M see start names) r s result → IsTrace r items end → Shows M see start items answers
    → Leaves s (answer_lines names answers) result
shown-are-written M see start names r s result items end answers runs t shows =
    leaves (ShowsLines M see start names) (ShowsLines M see start names) grows same r s result items end (answer_lines names answers) runs t
    (record { answers = answers; shown = shows; lines = refl })
  where
    grows : (front more : List Item) (text whole : List ℕ) → ShowsLines M see start names front text → ShowsLines M see start names (front ++ more) whole
        → (rest : List ℕ) × (whole ≡ text ++ rest)
    grows front more text whole a b =
        let rest = shown-front M see start front more a.answers b.answers a.shown b.shown in (
          answer_lines names rest.0,
          b.lines ∙ ap (answer_lines names) rest.1 ∙ lines-of names a.answers rest.0 ∙ ap (λ x. x ++ answer_lines names rest.0) (sym a.lines),
        )

    same : (list : List Item) (text whole : List ℕ) → ShowsLines M see start names list text → ShowsLines M see start names list whole → whole ≡ text
    same list text whole a b = b.lines ∙ ap (answer_lines names) (told-same M see start list a.answers b.answers a.shown b.shown) ∙ sym a.lines
