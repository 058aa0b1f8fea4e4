-- Runs over drawn events, and what is counted of them.
use Rattle.std.proofs.Common.{◌≡◌, ℕ, zero, suc, ◌+◌, ◌*◌, ◌≤◌, Bool, true, false, if◌then◌else◌, List, [], ◌∷◌, ◌++◌, length, map}
use Rattle.std.proofs.Common.{refl, sym, ap, ap₂, ◌∙◌, subst, arith}
use Rattle.std.specs.Prelude.{◌==◌, count_by}
use Rattle.base_types.specs.Items.{Item, Event, EachEvent}
use Rattle.base_types.specs.Relations.{MeetsAll}
use Rattle.base_types.specs.Draws.{next_state, state_after}
use Rattle.est_gen.specs.Events.{event_from}
use Rattle.est_kernel.specs.Plain.{Program, given_count}
use Rattle.est_kernel.specs.Reactions as semantics
use Rattle.net_ir.specs.Netlists.{Netlist}
use Rattle.net_ir.specs.Runs.{net_run}
use Rattle.run_trace_io.specs.declared.lines.Word.{Word}
use Rattle.run_trace_io.specs.declared.lines.Word.TheVariants.{Paused, Ended, Bare}
use Rattle.run_over_traces.specs.Languages.{word_of}
use Rattle.run_over_traces.specs.Machines.{ShownAnswer, Answered}
use Rattle.run_over_traces.specs.Steps.{Led}
use Rattle.run_over_traces.specs.Languages.{shown_answer, IsOfNet}
use Rattle.run_over_traces.proofs.Exports.{led-nowhere, led-more, led-shown}
use Rattle.cec_commands.specs.declared.commands.load.Counts.{Counts}
use Rattle.cec_commands.specs.Loads.{drawn_items, emitted_count, paused_count, summary_text}
use Rattle.cec_commands.specs.Loading.{present_count, pause_of, pause_count, drawn_state, counted_text, CountsOf, CountsMachine, CountsMore, CountsNet}
use Rattle.cec_compile.specs.Meaning.{AreItems}
use Rattle.cec_compile.specs.NetMeaning.{net_seen}

-- one instant more
pub drawn-more : (n x : ℕ) → drawn_items (n + 1) x ≡ drawn_items n x ++ Event (event_from 8 (drawn_state n x)) ∷ []
drawn-more zero x = refl
drawn-more (suc n) x =
    let e : suc n + 1 ≡ suc (n + 1) = omega arith in
    ap (λ k. drawn_items k x) e ∙ ap (λ l. Event (event_from 8 x) ∷ l) (drawn-more n (state_after 8 x))

pub state-more : (n x : ℕ) → drawn_state (n + 1) x ≡ state_after 8 (drawn_state n x)
state-more zero x = refl
state-more (suc n) x =
    let e : suc n + 1 ≡ suc (n + 1) = omega arith in
    ap (λ k. drawn_state k x) e ∙ state-more n (state_after 8 x)

present-append : (xs bs : List ShownAnswer) → present_count (xs ++ bs) ≡ present_count xs + present_count bs
present-append [] bs = omega arith
present-append (a ∷ xs) bs =
    let rest = present-append xs bs in
    omega (arith, rest)

pause-append : (xs bs : List ShownAnswer) → pause_count (xs ++ bs) ≡ pause_count xs + pause_count bs
pause-append [] bs = omega arith
pause-append (a ∷ xs) bs =
    let rest = pause-append xs bs in
    omega (arith, rest)

-- a run over the first drawn events
pub record DrawnSoFar {S : Type 0} (shows : S → List Item → List ShownAnswer → Type 0) (old new : S)
    (x y n emitted paused : ℕ) : Type 0 where
  pub answers : List ShownAnswer
  pub led : Led shows old (drawn_items n x) answers new
  pub state : y ≡ drawn_state n x
  pub present : emitted ≡ present_count answers
  pub pauses : paused ≡ pause_count answers
  pub few : emitted ≤ 8 * n
  pub each : paused ≤ n

pub drawn-nothing : {S : Type 0} (shows : S → List Item → List ShownAnswer → Type 0) (old : S) (x : ℕ)
    → DrawnSoFar shows old old x x 0 0 0
drawn-nothing shows old x =
    record { answers = []; led = led-nowhere shows old; state = refl; present = refl; pauses = refl; few = omega arith; each = omega arith }

pub pause-small : (w : Word) → pause_of w ≤ 1
pause-small Paused = omega arith
pause-small Ended = omega arith
pause-small Bare = omega arith

pub drawn-once : {S : Type 0} (shows : S → List Item → List ShownAnswer → Type 0) (old mid new : S) (x y z n : ℕ)
    (before now : Counts) (event : List Bool) → DrawnSoFar shows old mid x y n before.emitted before.paused → event ≡ event_from 8 y
    → z ≡ state_after 8 y → CountsMore shows mid event new before now → DrawnSoFar shows old new x z (n + 1) now.emitted now.paused
drawn-once shows old mid new x y z n before now event so is behind more =
    let answer = more.answer in
    let once = subst (λ e. Answered shows mid e answer new) (is ∙ ap (event_from 8) so.state) more.answered in
    let step : Led shows mid (Event (event_from 8 (drawn_state n x)) ∷ []) (answer ∷ []) new =
    record { in_front = λ rest behind h. once.in_front rest behind h } in
    let here = so.few in
    let there = so.each in
    let p = so.present in
    let q = so.pauses in
    let emitted_is = more.emitted in
    let paused_is = more.paused in
    let few = more.few in
    let one = pause-small answer.word in
    let shown = present-append so.answers (answer ∷ []) in
    let paused_all = pause-append so.answers (answer ∷ []) in
    record {
      answers = so.answers ++ answer ∷ [];
      led = subst (λ items. Led shows old items (so.answers ++ answer ∷ []) new) (sym (drawn-more n x))
          (led-more shows old mid new (drawn_items n x) so.answers (Event (event_from 8 (drawn_state n x)) ∷ []) (answer ∷ []) so.led step);
      state = behind ∙ ap (state_after 8) so.state ∙ sym (state-more n x);
      present = omega (arith, p, shown, emitted_is);
      pauses = omega (arith, q, paused_all, paused_is);
      few = omega (arith, here, few, emitted_is);
      each = omega (arith, there, one, paused_is);
    }

pub drawn-all : {S : Type 0} (shows : S → List Item → List ShownAnswer → Type 0) (old new : S) (x y n emitted paused : ℕ)
    → DrawnSoFar shows old new x y n emitted paused
    → CountsMachine shows old new (drawn_items n x) (record { emitted = emitted; paused = paused })
drawn-all shows old new x y n emitted paused so =
    record { answers = so.answers; led = so.led; counts = record { emitted = so.present; paused = so.pauses } }

-- ---- the numbers of a program's run

event-wide : (n x : ℕ) → length (event_from n x) ≡ n
event-wide zero x = refl
event-wide (suc n) x = ap suc (event-wide n (next_state x))

pub drawn-wide : (n x : ℕ) → EachEvent (λ event. length event ≡ 8) (drawn_items n x)
drawn-wide zero x = tt
drawn-wide (suc n) x = (event-wide 8 x, drawn-wide n (state_after 8 x))

-- the drawn events are events of a program with eight given signals and no relations
pub drawn-fits : (p : Program) → given_count p ≡ 8 → p.relations ≡ [] → (n x : ℕ) → AreItems p (drawn_items n x)
drawn-fits p wide free zero x = tt
drawn-fits p wide free (suc n) x = (
  record { wide = event-wide 8 x ∙ sym wide; meets = subst (λ r. MeetsAll r (event_from 8 x)) (sym free) (λ k d l. absurd (omega (arith, l))) },
  drawn-fits p wide free n (state_after 8 x),
)

emitted-seen : (answers : List semantics.Answer) → present_count (map shown_answer (map net_seen answers)) ≡ emitted_count answers
emitted-seen [] = refl
emitted-seen (a ∷ answers) = ap (λ k. count_by (λ b. b) a.outputs + k) (emitted-seen answers)

pause-word : (b : Bool) → pause_of (word_of b) ≡ (if b then 1 else 0)
pause-word true = refl
pause-word false = refl

paused-seen : (answers : List semantics.Answer) → pause_count (map shown_answer (map net_seen answers)) ≡ paused_count answers
paused-seen [] = refl
paused-seen (a ∷ answers) = ap₂ (λ i j. i + j) (pause-word (a.code == 1)) (paused-seen answers)

-- the counts of a net's answers are those of the program's run
pub counts-seen : (answers : List semantics.Answer) (net : Netlist) (items : List Item) (instants : ℕ) (c : Counts)
    → net_run net items ≡ map net_seen answers → CountsNet net items c
    → counted_text instants c.emitted c.paused ≡ summary_text instants answers
counts-seen answers net items instants c same counts =
    let first : c.emitted ≡ emitted_count answers = counts.emitted ∙ ap (λ l. present_count (map shown_answer l)) same ∙ emitted-seen answers in
    let second : c.paused ≡ paused_count answers = counts.paused ∙ ap (λ l. pause_count (map shown_answer l)) same ∙ paused-seen answers in
    ap₂ (counted_text instants) first second

-- ---- the two texts of a net

pub counts-agree : (net : Netlist) (items : List Item) (c d : Counts) → CountsNet net items c → CountsNet net items d
    → (c.emitted ≡ d.emitted) × (c.paused ≡ d.paused)
counts-agree net items c d x y = (x.emitted ∙ sym y.emitted, x.paused ∙ sym y.paused)

-- what a machine that shows a net counts, on its way over drawn events
pub machine-counts : {S : Type 0} (shows : S → List Item → List ShownAnswer → Type 0) (ends : (x : S) → shows x [] []) (net : Netlist) (old new : S)
    (n x : ℕ) (counts : Counts) → length net.inputs ≡ 8 → IsOfNet shows old net → CountsMachine shows old new (drawn_items n x) counts
    → CountsNet net (drawn_items n x) counts
machine-counts shows ends net old new n x counts wide of run =
    let events = subst (λ w. EachEvent (λ event. length event ≡ w) (drawn_items n x)) (sym wide) (drawn-wide n x) in
    let shown = led-shown shows old new (drawn_items n x) run.answers (ends new) run.led in
    subst (λ a. CountsOf a counts) (of.told (drawn_items n x) run.answers events shown) run.counts
