-- Inner: a run over a trace, and the line of its count behind it.
use Rattle.std.proofs.Common.{◌≡◌, ℕ, List, [], ◌++◌, length, sym, ap, ◌∙◌, subst, append-nil, Option, Some, None, Result, Ok, Err, inl, inr}
use Rattle.std.proofs.Math.Seq.{take-length}
use Rattle.std.specs.Prelude.{take}
use Rattle.base_types.specs.Items.{Item, EachEvent}
use Rattle.base_types.specs.Relations.{Relation, MeetsAll}
use Rattle.base_types.specs.SinkChanges.{SinkChange}
use Rattle.base_types.specs.Writing.{Appends, Stops, Gains}
use Rattle.base_types.proofs.Exports.{appends-twice, stops-behind}
use Rattle.csub_guard_run.specs.CountedRuns.{ReadsWholeTrace, RunsCounted, CountsProgram, CountsNet}
use Rattle.csub_guard_run.specs.ProgramAnswers.{bare_inputs, bare_outputs, program_shows, count_line, last_line}
use Rattle.csub_guard_run.specs.Showing.{Counter, IsNew, counted_program, counter_shows, adds_up}
use Rattle.csub_guard_run.specs.Tracing.{CountCame, IsProgramOf}
use Rattle.csub_guard_run.proofs.NetTexts.{counter-net}
use Rattle.csub_guard_run.proofs.Showing.{fresh_shows, new_counts}
use Rattle.net_ir.specs.Netlists.{Netlist}
use Rattle.run_trace_io.specs.Answers.{beginning}
use Rattle.run_trace_io.specs.Traces.{Reading}
use Rattle.run_over_traces.specs.Becoming.{shown_until}
use Rattle.run_over_traces.specs.Languages.{ShowsNet}
use Rattle.run_over_traces.specs.Machines.{Brings, answer_lines}
use Rattle.run_over_traces.specs.Running.{IsTraceFront, RunsTrace}
use Rattle.run_over_traces.specs.declared.running.RunFault.{RunFault}
use Rattle.run_over_traces.specs.declared.running.RunFault.TheVariants.{Trace, Write, NoMemory}
use Rattle.run_over_traces.proofs.Exports.{events-fit, traces-begin, runs-along, over, runs-so, widths}

-- what a new machine showed on its way to another, and what the other one's number is
pub record Ran (names : List (List ℕ)) (m last : Counter) (items : List Item) (text : List ℕ) : Type 0 where
  pub brings : Brings counter_shows names m items text
  pub counts : (n : ℕ) → last.total ≡ Some n → count_line n ≡ last_line (counted_program m) items

pub runs-by : (m last : Counter) (names : List (List ℕ)) (trace : Reading) (s : SinkChange) (result : Result (Unit {0}) RunFault) → IsNew m
    → RunsTrace (Brings (shown_until counter_shows adds_up last) names m) trace s result → RunsTrace (Ran names m last) trace s result
runs-by m last names trace s result new =
    runs-so (Brings (shown_until counter_shows adds_up last) names m) (Ran names m last) trace s result (λ items text brings. record {
      brings = record { answers = brings.answers; shown = brings.shown.0; lines = brings.lines };
      counts = λ n is. ap count_line (new_counts m last items n new brings.shown.1 is);
    })

all-taken : (before after : Option (List ℕ)) (text : List ℕ) → Gains before after text → Gains before after (take (length text) text)
all-taken before after text gains = subst (Gains before after) (sym (take-length text)) gains

-- a run that was done has one, or what came of it
pub counted-by : (m last : Counter) (names : List (List ℕ)) (trace : Reading) (a b c : Option (List ℕ)) (f g h : ℕ) (result : Result (Unit {0}) RunFault)
    → RunsTrace (Ran names m last) trace (over a b f g) (Ok tt) → (n : ℕ) → last.total ≡ Some n → CountCame n (over b c g h) result
    → RunsCounted (Brings counter_shows names m) (last_line (counted_program m)) trace (over a c f h) result
counted-by m last names trace a b c f g h (Ok done) runs n is came = record {
  items = runs.0;
  text = runs.1;
  whole = runs.2;
  writes = runs.3.brings;
  gained = subst (λ l. Appends a c f h (runs.1 ++ l)) (runs.3.counts n is)
      (appends-twice a b c f g h runs.1 (count_line n) runs.4 came);
}
counted-by m last names trace a b c f g h (Err (Trace fault)) runs n is came = absurd came
counted-by m last names trace a b c f g h (Err Write) runs n is came = inr (record {
  items = runs.0;
  text = runs.1;
  whole = runs.2;
  writes = runs.3.brings;
  gained = subst (λ l. Stops a c f h (runs.1 ++ l)) (append-nil (count_line n) ∙ runs.3.counts n is)
      (stops-behind a b c f g h runs.1 (count_line n) [] runs.4 came);
})
counted-by m last names trace a b c f g h (Err NoMemory) runs n is came = (
  runs.0,
  runs.1,
  traces-begin trace runs.0 None runs.2,
  runs.3.brings,
  came.1 ∙ runs.4.faults,
  record { taken = length runs.1; gains = all-taken a c runs.1 (subst (λ x. Gains a x runs.1) (sym came.0) runs.4.whole) },
)

-- ---- what one text brings about the other does, over the first items of the trace

whole-along : (W V : List Item → List ℕ → Type 0) (last : List Item → List ℕ) (r : Reading) (Gained : List ℕ → Type 0)
    → ((items : List Item) (text : List ℕ) → IsTraceFront r items → W items text → V items text) → ReadsWholeTrace W last r Gained
    → ReadsWholeTrace V last r Gained
whole-along W V last r Gained f is = record {
  items = is.items;
  text = is.text;
  whole = is.whole;
  writes = f is.items is.text (traces-begin r is.items None is.whole) is.writes;
  gained = is.gained;
}

pub counted-along : (W V : List Item → List ℕ → Type 0) (last : List Item → List ℕ) (r : Reading) (s : SinkChange) (result : Result (Unit {0}) RunFault)
    → ((items : List Item) (text : List ℕ) → IsTraceFront r items → W items text → V items text) → RunsCounted W last r s result → RunsCounted V last r s result
counted-along W V last r s (Ok done) f runs = whole-along W V last r (Appends s.before s.after s.faults_before s.faults_now) f runs
counted-along W V last r s (Err (Trace fault)) f runs = runs-along W V r s (Err (Trace fault)) f runs
counted-along W V last r s (Err Write) f (inl runs) = inl (runs-along W V r s (Err Write) f runs)
counted-along W V last r s (Err Write) f (inr whole) = inr (whole-along W V last r (Stops s.before s.after s.faults_before s.faults_now) f whole)
counted-along W V last r s (Err NoMemory) f runs = runs-along W V r s (Err NoMemory) f runs

-- over the interface of the program itself
pub counts-program : (m : Counter) (trace : List ℕ) (names given : List (List ℕ)) (relations : List Relation) (s : SinkChange)
    (result : Result (Unit {0}) RunFault) → IsNew m → names ≡ bare_outputs (counted_program m) → given ≡ bare_inputs (counted_program m) → relations ≡ []
    → RunsCounted (Brings counter_shows names m) (last_line (counted_program m)) (beginning trace given relations) s result
    → CountsProgram (counted_program m) trace s result
counts-program m trace names given relations s result new named same free runs =
    let p = counted_program m in
    let V = Brings program_shows (bare_outputs p) p in
    let there : (items : List Item) (text : List ℕ) → IsTraceFront (beginning trace given relations) items → Brings counter_shows names m items text
    → V items text = λ items text front brings. record {
      answers = brings.answers;
      shown = fresh_shows m new.calls items brings.answers brings.shown;
      lines = brings.lines ∙ ap (λ ns. answer_lines ns brings.answers) named;
    } in
    subst (λ r. RunsCounted V (last_line p) (beginning trace (bare_inputs p) r) s result) free
    (subst (λ g. RunsCounted V (last_line p) (beginning trace g relations) s result) same
    (counted-along (Brings counter_shows names m) V (last_line p) (beginning trace given relations) s result there runs))

-- over a trace of a net's inputs
pub counts-net : (text : List ℕ) (net : Netlist) (m : Counter) (trace : List ℕ) (names given : List (List ℕ)) (relations : List Relation) (s : SinkChange)
    (result : Result (Unit {0}) RunFault) → IsProgramOf text net (counted_program m) → IsNew m → given ≡ net.inputs
    → RunsCounted (Brings counter_shows names m) (last_line (counted_program m)) (beginning trace given relations) s result
    → CountsNet text names net (beginning trace given relations) s result
counts-net text net m trace names given relations s result of new same runs =
    let shown = (counter-net text net m of new).told in
    let there : (items : List Item) (lines : List ℕ) → IsTraceFront (beginning trace given relations) items → Brings counter_shows names m items lines
    → ShowsNet names net items lines = λ items lines front brings.
    let fits = subst (λ g. EachEvent (λ event. (length event ≡ length g) × MeetsAll relations event) items) same
    (events-fit trace given relations items front) in
    brings.lines ∙ ap (answer_lines names) (shown items brings.answers (widths (length net.inputs) relations items fits) brings.shown) in
    record {
      program = of.means.program;
      describes = of.means.describes;
      ran = subst (λ p. RunsCounted (ShowsNet names net) (last_line p) (beginning trace given relations) s result) of.is
          (counted-along (Brings counter_shows names m) (ShowsNet names net) (last_line (counted_program m)) (beginning trace given relations) s result
          there runs);
    }
