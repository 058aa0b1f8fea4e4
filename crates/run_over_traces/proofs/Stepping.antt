-- A run item by item: what one item brings, and what all so far brought.
use Rattle.std.proofs.Common.{◌≡◌, ℕ, ◌+◌, ◌<◌, ◌≤◌, Bool, true, false, List, [], ◌∷◌, ◌++◌, length, take, Option, Result, Ok, Err}
use Rattle.std.proofs.Common.{refl, sym, ap, ◌∙◌, subst, append-nil}
use Rattle.std.proofs.Math.Seq.{take-append-add}
use Rattle.base_types.specs.Items.{Item, Event, Reset}
use Rattle.base_types.specs.Relations.{MeetsAll}
use Rattle.base_types.specs.Writing.{Appends, Stops, GainsFront}
use Rattle.base_types.proofs.Exports.{gains-nothing, gains-twice, appends-nothing, appends-twice, stops-behind}
use Rattle.run_trace_io.specs.declared.faults.TraceFault.{TraceFault}
use Rattle.run_trace_io.specs.Lines.{line}
use Rattle.run_trace_io.specs.Traces.{Reading, next_group}
use Rattle.run_trace_io.specs.Traces as groups
use Rattle.run_trace_io.specs.Answers.{IsFault, AnswersGroup}
use Rattle.run_trace_io.specs.declared.faults.TraceError.{TraceError}
use Rattle.run_trace_io.specs.declared.faults.TraceError.TheVariants as errors
use Rattle.run_over_traces.specs.declared.running.RunFault.{RunFault}
use Rattle.run_over_traces.specs.declared.running.RunFault.TheVariants.{Trace, Write, NoMemory}
use Rattle.run_over_traces.specs.Becoming.{Passes, shown_until}
use Rattle.run_over_traces.specs.Machines.{ShownAnswer, Answered, PutBack, Brings, answer_lines}
use Rattle.base_types.specs.SinkChanges.{SinkChange}
use Rattle.run_over_traces.specs.Running.{RunsTrace}
use Rattle.run_over_traces.specs.Steps.{Leads, Led, Came, LineCame, Stands, IsStep, trace_stop}
use Rattle.run_over_traces.proofs.Groups.{Fits, fits-next}
use Rattle.run_over_traces.proofs.Leading.{leads-more, front-leads, whole-leads, fault-leads, led-nowhere, led-more, led-shown}
use Rattle.run_over_traces.proofs.Fronts.{lines-of}

-- a sink that nothing was written to
abbrev pub untouched : Option (List ℕ) → ℕ → SinkChange
untouched told faults = record { before = told; after = told; faults_before = faults; faults_now = faults }

-- a sink over two calls
abbrev pub over : Option (List ℕ) → Option (List ℕ) → ℕ → ℕ → SinkChange
over before after f g = record { before = before; after = after; faults_before = f; faults_now = g }

-- ---- one item

pub step-end : {S : Type 0} (shows : S → List Item → List ShownAnswer → Type 0) (names : List (List ℕ)) (r later : Reading) (s : S)
    (told : Option (List ℕ)) (faults : ℕ) → next_group r ≡ groups.End → later ≡ r
    → IsStep shows names r later s s (untouched told faults) (Ok false)
step-end shows names r later s told faults end same = record {
  items = [];
  answers = [];
  leads = same;
  led = led-nowhere shows s;
  came = appends-nothing told faults;
  stands = ap next_group same ∙ end;
}

step-fault : {S : Type 0} (shows : S → List Item → List ShownAnswer → Type 0) (names : List (List ℕ)) (r later : Reading) (s : S)
    (told : Option (List ℕ)) (faults : ℕ) (fault : TraceFault) → IsFault r fault → later ≡ r
    → IsStep shows names r later s s (untouched told faults) (Err (Trace fault))
step-fault shows names r later s told faults fault is same = record {
  items = [];
  answers = [];
  leads = same;
  led = led-nowhere shows s;
  came = appends-nothing told faults;
  stands = subst (λ q. IsFault q fault) (sym same) is;
}

step-memory : {S : Type 0} (shows : S → List Item → List ShownAnswer → Type 0) (names : List (List ℕ)) (r later : Reading) (s : S)
    (told : Option (List ℕ)) (faults : ℕ) → later ≡ r → IsStep shows names r later s s (untouched told faults) (Err NoMemory)
step-memory shows names r later s told faults same = record {
  items = [];
  answers = [];
  leads = same;
  led = led-nowhere shows s;
  came = (refl, record { taken = 0; gains = gains-nothing told });
  stands = tt;
}

pub step-stop : {S : Type 0} (shows : S → List Item → List ShownAnswer → Type 0) (names : List (List ℕ)) (r later : Reading) (s : S)
    (told : Option (List ℕ)) (faults : ℕ) (error : TraceError) → AnswersGroup r (Err error) later
    → IsStep shows names r later s s (untouched told faults) (Err (trace_stop error))
step-stop shows names r later s told faults (errors.Fault fault) a =
    step-fault shows names r later s told faults fault a.0 a.1
step-stop shows names r later s told faults errors.NoMemory a = step-memory shows names r later s told faults a

pub step-reset : {S : Type 0} (shows : S → List Item → List ShownAnswer → Type 0) (names : List (List ℕ)) (r later : Reading) (s t : S)
    (told : Option (List ℕ)) (faults behind : ℕ) → r.at ≤ length r.text → next_group r ≡ groups.Reset behind → later ≡ record r { at = behind }
    → PutBack shows s t → IsStep shows names r later s t (untouched told faults) (Ok true)
step-reset shows names r later s t told faults behind within is same back =
    let fits = subst (Fits r.at (length r.text) (length r.inputs)) is (fits-next r within) in
    let at = sym (ap (λ (q : Reading). q.at) same) in
    record {
      items = Reset ∷ [];
      answers = [];
      leads = (behind, is, same);
      led = record { in_front = λ more rest h. back more rest h };
      came = appends-nothing told faults;
      stands = (subst (λ k. r.at < k) at fits.0, subst (λ (q : Reading). q.at ≤ length q.text) (sym same) fits.1);
    }

-- a reset and a reaction, whatever the machine becomes
pub back-until : {S : Type 0} (shows : S → List Item → List ShownAnswer → Type 0) (becomes : S → List Item → S → Type 0) (last s t : S)
    → PutBack shows s t → Passes becomes Reset s t → PutBack (shown_until shows becomes last) s t
back-until shows becomes last s t back passes items answers h = (back items answers h.0, passes items last h.1)

pub answered-until : {S : Type 0} (shows : S → List Item → List ShownAnswer → Type 0) (becomes : S → List Item → S → Type 0) (last s t : S)
    (event : List Bool) (answer : ShownAnswer) → Answered shows s event answer t → Passes becomes (Event event) s t
    → Answered (shown_until shows becomes last) s event answer t
answered-until shows becomes last s t event answer react passes =
    record { in_front = λ items answers h. (react.in_front items answers h.0, passes items last h.1) }

abbrev pub more_after : Result (Unit {0}) RunFault → Result Bool RunFault
more_after (Ok done) = Ok true
more_after (Err fault) = Err fault

came-line : (s : SinkChange) (text : List ℕ) (result : Result (Unit {0}) RunFault) → LineCame s text result → Came s text (more_after result)
came-line s text (Ok done) c = c
came-line s text (Err (Trace fault)) c = absurd c
came-line s text (Err Write) c = c
came-line s text (Err NoMemory) c = c

stands-line : (r later : Reading) (s : SinkChange) (text : List ℕ) (result : Result (Unit {0}) RunFault) → LineCame s text result
    → (r.at < later.at) × (later.at ≤ length later.text) → Stands r later (more_after result)
stands-line r later s text (Ok done) c h = h
stands-line r later s text (Err (Trace fault)) c h = absurd c
stands-line r later s text (Err Write) c h = tt
stands-line r later s text (Err NoMemory) c h = tt

pub step-event : {S : Type 0} (shows : S → List Item → List ShownAnswer → Type 0) (names : List (List ℕ)) (r later : Reading) (s t : S)
    (sinks : SinkChange) (result : Result (Unit {0}) RunFault) (event : List Bool) (behind : ℕ) (answer : ShownAnswer)
    → r.at ≤ length r.text → next_group r ≡ groups.Instant event behind → MeetsAll r.relations event
    → later ≡ record r { at = behind; instant = r.instant + 1 } → Answered shows s event answer t
    → LineCame sinks (line names answer.present answer.word) result
    → IsStep shows names r later s t sinks (more_after result)
step-event shows names r later s t sinks result event behind answer within is meets same react came =
    let fits = subst (Fits r.at (length r.text) (length r.inputs)) is (fits-next r within) in
    let at = sym (ap (λ (q : Reading). q.at) same) in
    let text = line names answer.present answer.word in
    record {
      items = Event event ∷ [];
      answers = answer ∷ [];
      leads = (behind, is, meets, same);
      led = record { in_front = λ more rest h. react.in_front more rest h };
      came = subst (λ x. Came sinks x (more_after result)) (sym (append-nil text)) (came-line sinks text result came);
      stands = stands-line r later sinks text result came
          (subst (λ k. r.at < k) at fits.0, subst (λ (q : Reading). q.at ≤ length q.text) (sym same) fits.1);
    }

-- the same by other names of the same
pub step-as : {S : Type 0} (shows : S → List Item → List ShownAnswer → Type 0) (names others : List (List ℕ)) (r later : Reading)
    (s t : S) (sinks : SinkChange) (result end : Result Bool RunFault) → names ≡ others → result ≡ end
    → IsStep shows names r later s t sinks result → IsStep shows others r later s t sinks end
step-as shows names others r later s t sinks result end named ended step =
    subst (λ x. IsStep shows others r later s t sinks x) ended (subst (λ n. IsStep shows n r later s t sinks result) named step)

-- ---- all items so far

pub record SoFar {S : Type 0} (shows : S → List Item → List ShownAnswer → Type 0) (names : List (List ℕ)) (r later : Reading)
    (old new : S) (before after : Option (List ℕ)) (f g : ℕ) : Type 0 where
  pub items : List Item
  pub answers : List ShownAnswer
  pub leads : Leads r items later
  pub led : Led shows old items answers new
  pub came : Appends before after f g (answer_lines names answers)

-- the same, whatever machine it becomes behind the items that are left
abbrev pub SoFarTowards : {S : Type 0} → (S → List Item → List ShownAnswer → Type 0) → (S → List Item → S → Type 0)
    → (names : List (List ℕ)) (r later : Reading) (old new : S) (before after : Option (List ℕ)) (f g : ℕ) → Type 0
SoFarTowards {S} shows becomes names r later old new before after f g =
    (last : S) → SoFar (shown_until shows becomes last) names r later old new before after f g

pub so-far-nothing : {S : Type 0} (shows : S → List Item → List ShownAnswer → Type 0) (names : List (List ℕ)) (r : Reading) (s : S)
    (told : Option (List ℕ)) (f : ℕ) → SoFar shows names r r s s told told f f
so-far-nothing shows names r s told f =
    record { items = []; answers = []; leads = refl; led = led-nowhere shows s; came = appends-nothing told f }

-- a text was appended, and a prefix of another behind it
front-behind : (a b c : Option (List ℕ)) (x y : List ℕ) (f g : ℕ) → Appends a b f g x → GainsFront b c y → GainsFront a c (x ++ y)
front-behind a b c x y f g p q = record {
  taken = length x + q.taken;
  gains = rw (take-append-add x y q.taken) (gains-twice a b c x (take q.taken y) p.whole q.gains);
}

-- one item more
pub so-far-more : {S : Type 0} (shows : S → List Item → List ShownAnswer → Type 0) (names : List (List ℕ)) (r q p : Reading)
    (s t u : S) (a b c : Option (List ℕ)) (f g h : ℕ) → SoFar shows names r q s t a b f g
    → IsStep shows names q p t u (over b c g h) (Ok true) → SoFar shows names r p s u a c f h
so-far-more shows names r q p s t u a b c f g h so step =
    let lines = lines-of names so.answers step.answers in
    record {
      items = so.items ++ step.items;
      answers = so.answers ++ step.answers;
      leads = leads-more r q p so.items step.items so.leads step.leads;
      led = led-more shows s t u so.items so.answers step.items step.answers so.led step.led;
      came = subst (λ x. Appends a c f h x) (sym lines) (appends-twice a b c f g h _ _ so.came step.came);
    }

-- what a run of these items brought, before its end
record Brought {S : Type 0} (shows : S → List Item → List ShownAnswer → Type 0) (names : List (List ℕ)) (r later : Reading)
    (old new : S) : Type 0 where
  items : List Item
  answers : List ShownAnswer
  leads : Leads r items later
  led : Led shows old items answers new

abbrev both : {S : Type 0} (shows : S → List Item → List ShownAnswer → Type 0) (names : List (List ℕ)) (r q p : Reading)
    (s t u : S) (a b c : Option (List ℕ)) (f g h : ℕ) (result : Result Bool RunFault) → SoFar shows names r q s t a b f g
    → IsStep shows names q p t u (over b c g h) result → Brought shows names r p s u
both shows names r q p s t u a b c f g h result so step = record {
  items = so.items ++ step.items;
  answers = so.answers ++ step.answers;
  leads = leads-more r q p so.items step.items so.leads step.leads;
  led = led-more shows s t u so.items so.answers step.items step.answers so.led step.led;
}

ends-at : {S : Type 0} (shows : S → List Item → List ShownAnswer → Type 0) (names : List (List ℕ)) (r q p : Reading)
    (s t u : S) (ends : shows u [] []) (a b c : Option (List ℕ)) (f g h : ℕ) → SoFar shows names r q s t a b f g
    → IsStep shows names q p t u (over b c g h) (Ok false) → RunsTrace (Brings shows names s) r (over a c f h) (Ok tt)
ends-at shows names r q p s t u ends a b c f g h so step =
    let all = both shows names r q p s t u a b c f g h (Ok false) so step in
    let lines = lines-of names so.answers step.answers in (
      all.items,
      answer_lines names all.answers,
      whole-leads r p all.items all.leads step.stands,
      record { answers = all.answers; shown = led-shown shows s u all.items all.answers ends all.led; lines = refl },
      subst (λ x. Appends a c f h x) (sym lines) (appends-twice a b c f g h _ _ so.came step.came),
    )

stops-at : {S : Type 0} (shows : S → List Item → List ShownAnswer → Type 0) (names : List (List ℕ)) (r q p : Reading)
    (s t u : S) (ends : shows u [] []) (a b c : Option (List ℕ)) (f g h : ℕ) (fault : RunFault) → SoFar shows names r q s t a b f g
    → IsStep shows names q p t u (over b c g h) (Err fault) → RunsTrace (Brings shows names s) r (over a c f h) (Err fault)
stops-at shows names r q p s t u ends a b c f g h (Trace fault) so step =
    let all = both shows names r q p s t u a b c f g h (Err (Trace fault)) so step in
    let lines = lines-of names so.answers step.answers in (
      all.items,
      answer_lines names all.answers,
      fault-leads r p all.items fault all.leads step.stands,
      record { answers = all.answers; shown = led-shown shows s u all.items all.answers ends all.led; lines = refl },
      subst (λ x. Appends a c f h x) (sym lines) (appends-twice a b c f g h _ _ so.came step.came),
    )
stops-at shows names r q p s t u ends a b c f g h Write so step =
    let all = both shows names r q p s t u a b c f g h (Err Write) so step in
    let first = answer_lines names so.answers in
    let second = answer_lines names step.answers in
    let lines : first ++ (second ++ []) ≡ answer_lines names (so.answers ++ step.answers) = ap (λ x. first ++ x) (append-nil second)
    ∙ sym (lines-of names so.answers step.answers) in (
      all.items,
      answer_lines names all.answers,
      front-leads r p all.items all.leads,
      record { answers = all.answers; shown = led-shown shows s u all.items all.answers ends all.led; lines = refl },
      subst (λ x. Stops a c f h x) lines (stops-behind a b c f g h first second [] so.came step.came),
    )
stops-at shows names r q p s t u ends a b c f g h NoMemory so step =
    let all = both shows names r q p s t u a b c f g h (Err NoMemory) so step in
    let first = answer_lines names so.answers in
    let second = answer_lines names step.answers in (
      all.items,
      answer_lines names all.answers,
      front-leads r p all.items all.leads,
      record { answers = all.answers; shown = led-shown shows s u all.items all.answers ends all.led; lines = refl },
      step.came.0 ∙ so.came.faults,
      subst (λ x. GainsFront a c x) (sym (lines-of names so.answers step.answers)) (front-behind a b c first second f g so.came step.came.1),
    )

-- what brings one text about brings the other
pub runs-so : (W V : List Item → List ℕ → Type 0) (r : Reading) (s : SinkChange) (result : Result (Unit {0}) RunFault)
    → ((items : List Item) (text : List ℕ) → W items text → V items text) → RunsTrace W r s result → RunsTrace V r s result
runs-so W V r s (Ok done) f x = (x.0, x.1, x.2, f x.0 x.1 x.3, x.4)
runs-so W V r s (Err (Trace fault)) f x = (x.0, x.1, x.2, f x.0 x.1 x.3, x.4)
runs-so W V r s (Err Write) f x = (x.0, x.1, x.2, f x.0 x.1 x.3, x.4)
runs-so W V r s (Err NoMemory) f x = (x.0, x.1, x.2, f x.0 x.1 x.3, x.4, x.5)

-- what the machine becomes is left out
pub runs-shown : {S : Type 0} (shows : S → List Item → List ShownAnswer → Type 0) (becomes : S → List Item → S → Type 0) (last : S)
    (names : List (List ℕ)) (s : S) (r : Reading) (c : SinkChange) (result : Result (Unit {0}) RunFault)
    → RunsTrace (Brings (shown_until shows becomes last) names s) r c result
    → RunsTrace (Brings shows names s) r c result
runs-shown shows becomes last names s r c result runs =
    runs-so (Brings (shown_until shows becomes last) names s) (Brings shows names s) r c result
    (λ items text brings. record { answers = brings.answers; shown = brings.shown.0; lines = brings.lines }) runs

-- the last item of a run, which began at a reading
pub run-ends : {S : Type 0} (shows : S → List Item → List ShownAnswer → Type 0) (names : List (List ℕ)) (first r q p : Reading)
    (s t u : S) (ends : shows u [] []) (a b c : Option (List ℕ)) (f g h : ℕ) → r ≡ first → SoFar shows names r q s t a b f g
    → IsStep shows names q p t u (over b c g h) (Ok false) → RunsTrace (Brings shows names s) first (over a c f h) (Ok tt)
run-ends shows names first r q p s t u ends a b c f g h same so step =
    subst (λ x. RunsTrace (Brings shows names s) x (over a c f h) (Ok tt)) same
    (ends-at shows names r q p s t u ends a b c f g h so step)

pub run-stops : {S : Type 0} (shows : S → List Item → List ShownAnswer → Type 0) (names : List (List ℕ)) (first r q p : Reading)
    (s t u : S) (ends : shows u [] []) (a b c : Option (List ℕ)) (f g h : ℕ) (fault : RunFault) → r ≡ first → SoFar shows names r q s t a b f g
    → IsStep shows names q p t u (over b c g h) (Err fault) → RunsTrace (Brings shows names s) first (over a c f h) (Err fault)
run-stops shows names first r q p s t u ends a b c f g h fault same so step =
    subst (λ x. RunsTrace (Brings shows names s) x (over a c f h) (Err fault)) same
    (stops-at shows names r q p s t u ends a b c f g h fault so step)
