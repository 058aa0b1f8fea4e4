-- The lines of a compiled program's netlist over a trace are those of the program's own run.
use Rattle.std.proofs.Common.{◌≡◌, ℕ, List, [], ◌∷◌, length, map, drop, Option, Result, Err, refl, sym, ap, ◌∙◌, subst, arith}
use Rattle.std.proofs.lemmas.List.{length-drop, length-take}
use Rattle.base_types.specs.Items.{Item, Event, Reset, EachEvent}
use Rattle.base_types.proofs.Exports.{gains-nothing}
use Rattle.base_types.specs.Relations.{Relation, MeetsAll}
use Rattle.est_kernel.specs.Plain.{Program, given_count, given_names, outgoing_count, outgoing_names}
use Rattle.est_kernel.specs.Reactions.{Answer}
use Rattle.est_kernel.specs.WellFormed.{IsWellFormed}
use Rattle.net_ir.specs.Netlists.{Netlist, output_names}
use Rattle.run_trace_io.specs.Answers.{beginning}
use Rattle.run_trace_io.specs.Traces.{Reading}
use Rattle.run_over_traces.specs.declared.running.RunFault.{RunFault}
use Rattle.run_over_traces.specs.declared.running.RunFault.TheVariants.{NoMemory}
use Rattle.run_over_traces.specs.Machines.{answer_lines}
use Rattle.run_over_traces.specs.Languages.{shown_answer, ShowsNet}
use Rattle.base_types.specs.SinkChanges.{SinkChange}
use Rattle.run_over_traces.specs.Running.{RunsTrace}
use Rattle.run_over_traces.proofs.Exports.{events-fit, runs-along}
use Rattle.cec_compile.specs.Meaning.{AreItems}
use Rattle.cec_compile.specs.NetMeaning.{net_seen, NetKeeps}
use Rattle.cec_compile.specs.GuardedTexts.{IsGuardedOf}
use Rattle.cec_compile.specs.declared.forms.TextForm.{TextForm}
use Rattle.cec_compile.specs.declared.forms.TextForm.TheVariants as forms
use Rattle.csub_guard_run.specs.CountedRuns.{RunsCounted}
use Rattle.csub_guard_run.specs.ProgramAnswers.{last_line}
use Rattle.csub_guard_run.proofs.Exports.{counted-along}
use Rattle.cec_commands.specs.NetTexts.{IsWritten, RunsText}
use Rattle.cec_commands.specs.Runs.{line_answer, ShowsRun, RunsVia}

-- the events of a trace are events of the program
are_items : (p : Program) (n : ℕ) → n ≡ given_count p → (items : List Item) → EachEvent (λ event. (length event ≡ n) × MeetsAll p.relations event) items
    → AreItems p items
are_items p n is [] fits = tt
are_items p n is (Event event ∷ items) fits = (record { wide = fits.0.0 ∙ is; meets = fits.0.1 }, are_items p n is items fits.1)
are_items p n is (Reset ∷ items) fits = are_items p n is items fits

-- the answers of a run, as a netlist shows them and as a line does
lines_seen : (answers : List Answer) → map shown_answer (map net_seen answers) ≡ map line_answer answers
lines_seen [] = refl
lines_seen (a ∷ answers) = ap (λ l. line_answer a ∷ l) (lines_seen answers)

shows_run : (net : Netlist) (p : Program) → NetKeeps net p → (items : List Item) (text : List ℕ) → AreItems p items
    → ShowsNet (outgoing_names p) net items text → ShowsRun p items text
shows_run net p keeps items text fits shows =
    let found = keeps.runs items fits in
    record {
      answers = found.0;
      constructive = found.1;
      lines = shows ∙ ap (λ l. answer_lines (outgoing_names p) (map shown_answer l)) found.2
          ∙ ap (answer_lines (outgoing_names p)) (lines_seen found.0);
    }

-- What a netlist that keeps what a program means shows over a trace is the program's own run.
pub runs_program : (net : Netlist) (p : Program) → given_count p ≡ length (given_names p) → NetKeeps net p → (trace : List ℕ) (relations : List Relation)
    (s : SinkChange) (result : Result (Unit {0}) RunFault) → relations ≡ p.relations
    → RunsTrace (ShowsNet (output_names net) net) (beginning trace net.inputs relations) s result
    → RunsTrace (ShowsRun p) (beginning trace (given_names p) p.relations) s result
runs_program net p wide keeps trace relations s result same runs =
    let by_name = subst (λ names. RunsTrace (ShowsNet names net) (beginning trace net.inputs relations) s result) keeps.outputs runs in
    let by_input = subst (λ given. RunsTrace (ShowsNet (outgoing_names p) net) (beginning trace given relations) s result) keeps.inputs by_name in
    let by_relation = subst (λ r. RunsTrace (ShowsNet (outgoing_names p) net) (beginning trace (given_names p) r) s result) same by_input in
    runs-along (ShowsNet (outgoing_names p) net) (ShowsRun p) (beginning trace (given_names p) p.relations) s result
    (λ items text front shows.
    shows_run net p keeps items text
    (are_items p (length (given_names p)) (sym wide) items (events-fit trace (given_names p) p.relations items front)) shows) by_relation

-- so by the text that is run, which is made of the bytes where it is guarded
pub runs_via : (via : TextForm) (main : Option (List ℕ)) (bytes text : List ℕ) (net : Netlist) (p : Program) → given_count p ≡ length (given_names p)
    → NetKeeps net p → (trace : List ℕ) (relations : List Relation) (s : SinkChange) (result : Result (Unit {0}) RunFault) → relations ≡ p.relations
    → (via ≡ forms.Guarded → IsGuardedOf bytes main text)
    → RunsText via text (output_names net) net (beginning trace net.inputs relations) s result
    → RunsVia via main bytes p (beginning trace (given_names p) p.relations) s result
runs_via forms.Blif main bytes text net p wide keeps trace relations s result same guarded runs =
    runs_program net p wide keeps trace relations s result same runs
runs_via forms.EncodedBlif main bytes text net p wide keeps trace relations s result same guarded runs =
    runs_program net p wide keeps trace relations s result same runs
runs_via forms.C main bytes text net p wide keeps trace relations s result same guarded runs =
    runs_program net p wide keeps trace relations s result same runs
runs_via forms.Verilog main bytes text net p wide keeps trace relations s result same guarded runs =
    runs_program net p wide keeps trace relations s result same runs
runs_via forms.Guarded main bytes text net p wide keeps trace relations s result same guarded runs =
    let last = last_line runs.program in
    let by_name = subst (λ names. RunsCounted (ShowsNet names net) last (beginning trace net.inputs relations) s result) keeps.outputs runs.ran in
    let by_input = subst (λ given. RunsCounted (ShowsNet (outgoing_names p) net) last (beginning trace given relations) s result) keeps.inputs by_name in
    let by_relation = subst (λ r. RunsCounted (ShowsNet (outgoing_names p) net) last (beginning trace (given_names p) r) s result) same by_input in
    record {
      text = text;
      made = guarded refl;
      program = runs.program;
      describes = runs.describes;
      ran = counted-along (ShowsNet (outgoing_names p) net) (ShowsRun p) last (beginning trace (given_names p) p.relations) s result
          (λ items lines front shows.
          shows_run net p keeps items lines
          (are_items p (length (given_names p)) (sym wide) items (events-fit trace (given_names p) p.relations items front)) shows) by_relation;
    }

-- a program has as many names of given signals as given signals
pub given_wide : (p : Program) → IsWellFormed p → given_count p ≡ length (given_names p)
given_wide p formed =
    let fits = formed.interface in
    omega (arith, fits, length-take (given_count p) p.signals)

pub outgoing_wide : (p : Program) → IsWellFormed p → outgoing_count p ≡ length (outgoing_names p)
outgoing_wide p formed =
    let fits = formed.interface in
    omega (arith, fits, length-take (outgoing_count p) (drop p.inputs p.signals), length-drop p.inputs p.signals)

-- where memory is wanting before the run, nothing is written
nothing : (names : List (List ℕ)) (net : Netlist) (trace : Reading) (told : Option (List ℕ)) (faults : ℕ)
    → RunsTrace (ShowsNet names net) trace (record { before = told; after = told; faults_before = faults; faults_now = faults }) (Err NoMemory)
nothing names net trace told faults = ([], [], tt, refl, refl, record { taken = 0; gains = gains-nothing told })

pub runs_nothing : (form : TextForm) (text : List ℕ) (names : List (List ℕ)) (net : Netlist) (trace : Reading) (told : Option (List ℕ)) (faults : ℕ)
    → IsWritten form text net
    → RunsText form text names net trace (record { before = told; after = told; faults_before = faults; faults_now = faults }) (Err NoMemory)
runs_nothing forms.Guarded text names net trace told faults w = record {
  program = w.program;
  describes = w.describes;
  ran = nothing names net trace told faults;
}
runs_nothing forms.Blif text names net trace told faults w = nothing names net trace told faults
runs_nothing forms.EncodedBlif text names net trace told faults w = nothing names net trace told faults
runs_nothing forms.C text names net trace told faults w = nothing names net trace told faults
runs_nothing forms.Verilog text names net trace told faults w = nothing names net trace told faults
