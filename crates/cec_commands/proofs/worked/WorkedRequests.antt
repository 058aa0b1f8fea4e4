-- Written by hand: what outcomes say of sources, texts and traces, row by row, where bounds lie, and what is asked of files so that nothing is
-- refused.
use Rattle.std.proofs.Common.{◌≡◌, ◌⊎◌, ◌+◌, ◌≤◌, ◌++◌, ℕ, List, [], ◌∷◌, length, map, Some, None, Option, Result, Ok, Err, codes, refl}
use Rattle.std.proofs.Common.{arith, inl, inr}
use Rattle.base_types.specs.Items.{Event, Reset}
use Rattle.base_types.specs.Relations.{Relation}
use Rattle.base_types.specs.SinkChanges.{SinkChange, IsUntouched}
use Rattle.base_types.specs.Writing.{Appends}
use Rattle.est_gen.specs.Sources.{source_text}
use Rattle.est_kernel.specs.Plain.{Program, given_names, outgoing_names}
use Rattle.est_kernel.specs.Reactions.{run_of}
use Rattle.grc_graph.specs.WireNames.{WireName, wire_name}
use Rattle.cec_text_io.specs.Writings as texts
use Rattle.cec_text_io.specs.declared.writing.Written.TheVariants as ends
use Rattle.run_trace_io.specs.Answers.{IsTrace, beginning}
use Rattle.run_trace_io.specs.Traces.{Reading}
use Rattle.run_trace_io.specs.declared.faults.TraceFault.TheVariants as traces
use Rattle.run_over_traces.specs.Languages.{RunsIn}
use Rattle.run_over_traces.specs.Machines.{answer_lines}
use Rattle.run_over_traces.specs.Running.{IsTraceFront, RunsTrace}
use Rattle.run_over_traces.specs.declared.running.RunFault.{RunFault}
use Rattle.run_over_traces.specs.declared.running.RunFault.TheVariants as runs
use Rattle.blif_run.specs.CircuitAnswers.{listed_names, circuit_shows}
use Rattle.blif_run.specs.Texts.{ReadsCircuit}
use Rattle.blif_run.specs.Texts as circuits
use Rattle.csub_read.specs.Faults.{ReadsAs}
use Rattle.csub_run.specs.ProgramAnswers.{bare_inputs, bare_outputs, program_shows}
use Rattle.csub_run.specs.Texts as programs
use Rattle.csub_guard.specs.Texts.{Describes}
use Rattle.csub_guard_read.specs.Faults as guarded_reads
use Rattle.csub_guard_run.specs.CountedRuns.{CountsIn, RunsCounted}
use Rattle.csub_guard_run.specs.ProgramAnswers.{last_line}
use Rattle.csub_guard_run.specs.ProgramAnswers as guardeds
use Rattle.csub_guard_run.specs.Texts as guarded_texts
use Rattle.vlog_run.specs.ModuleAnswers as modules
use Rattle.vlog_run.specs.Texts as module_texts
use Rattle.cec_words.specs.declared.asked.Pick.TheVariants as picks
use Rattle.cec_words.specs.declared.asked.Via.TheVariants.{Blif, C, Guard, Verilog}
use Rattle.est_front.specs.Sources.{StandsFor}
use Rattle.est_front.specs.declared.refusal.Fault.TheVariants as static
use Rattle.cec_compile.specs.GuardedTexts.{IsGuardedOf}
use Rattle.cec_compile.specs.Refusals.{KeepsGraphLimits, Compiles}
use Rattle.cec_compile.specs.Sources.{IsSource, IsRefusedSource, WritesLongText}
use Rattle.cec_compile.specs.declared.forms.TextForm.TheVariants as forms
use Rattle.cec_compile.specs.declared.refusal.Limit.TheVariants as limits
use Rattle.cec_compile.specs.declared.refusal.Refusal.TheVariants as refusals
use Rattle.cec_commands.specs.Accepted.{IsWholeTrace, RunsToEnd, ReactsToEnd, ComesToStop, inputs_by, ExecutesToEnd, IsAccepted}
use Rattle.cec_commands.specs.ExecTexts.{IsTextIn, IsRunnable, TextHasFault, RunsBy}
use Rattle.cec_commands.specs.HelpTexts.{help_text}
use Rattle.cec_commands.specs.Jobs.{Job, Help, Make, Run, RunTri, Exec, Generate, Load}
use Rattle.cec_commands.specs.Loads.{IsSummary, state_behind}
use Rattle.cec_commands.specs.Outcomes.{MakesOn, RunsOn, ExecutesIn, IsLongTrace, LeavesAnswer, GainsOut}
use Rattle.cec_commands.specs.Runs.{ShowsRun, RunsVia, RunsSource, LeavesRun, line_answer}
use Rattle.cec_commands.specs.TriRuns.{IsGraphSource, ReactsOn, event_count, ReactsOver, StopsTrace, StopsOver, LeavesReactions}
use Rattle.cec_commands.specs.declared.jobs.Task.TheVariants.{Text, Grc, Check}
use Rattle.cec_commands.specs.declared.outcome.Outcome.TheVariants.{Done, Usage, FileFault, Static, Trace, Limit, NotConstructive, WriteFault, NoMemory}
use Rattle.cec_words.specs.declared.common.Which.TheVariants.{First, Second}
use Rattle.cec_commands.specs.declared.text_faults.TextFault.{TextFault}
use Rattle.cec_commands.specs.declared.text_faults.TextFault.TheVariants as told
use Rattle.cec_commands.specs.declared.unknown_wires.UnknownWires.{UnknownWires}

-- ---- a source that was read

makes : (main : Option (List ℕ)) (bytes : List ℕ) → (MakesOn main Done bytes → IsSource main bytes) × (MakesOn main WriteFault bytes → IsSource main bytes)
    × (MakesOn main (Static (static.BadByte 3)) bytes → IsRefusedSource main (refusals.Static (static.BadByte 3)) bytes)
    × (MakesOn main (Limit limits.Kernel) bytes → IsRefusedSource main (refusals.Limit limits.Kernel) bytes)
makes main bytes = (λ h. h, λ h. h, λ h. h, λ h. h)

runs_on : (main : Option (List ℕ)) (bytes : List ℕ) → (RunsOn forms.C main Done bytes → IsSource main bytes)
    × (RunsOn forms.C main (FileFault Second) bytes → IsSource main bytes) × (RunsOn forms.C main (Trace (traces.BadByte 3)) bytes → IsSource main bytes)
    × (RunsOn forms.C main (Limit limits.Trace) bytes → IsSource main bytes)
    × (RunsOn forms.Verilog main (Limit limits.Text) bytes → WritesLongText forms.Verilog main bytes)
runs_on main bytes = (λ h. h, λ h. h, λ h. h, λ h. h, λ h. h)

reacts_on : (main : Option (List ℕ)) (bytes : List ℕ) (wires : UnknownWires) → (ReactsOn main Done bytes → IsGraphSource main bytes)
    × (ReactsOn main (FileFault Second) bytes → IsGraphSource main bytes) × (ReactsOn main (Trace (traces.BadByte 3)) bytes → IsGraphSource main bytes)
    × (ReactsOn main (Limit limits.Trace) bytes → IsGraphSource main bytes) × (ReactsOn main WriteFault bytes → IsGraphSource main bytes)
    × (ReactsOn main (NotConstructive wires) bytes → IsGraphSource main bytes)
    × (ReactsOn main (Static (static.BadByte 3)) bytes → IsRefusedSource main (refusals.Static (static.BadByte 3)) bytes)
    × (ReactsOn main (Limit limits.Kernel) bytes → IsRefusedSource main (refusals.Limit limits.Kernel) bytes)
reacts_on main bytes wires = (λ h. h, λ h. h, λ h. h, λ h. h, λ h. h, λ h. h, λ h. h, λ h. h)

never_reacts : ReactsOn None Usage [] ⊎ ReactsOn None (FileFault First) [] → ⊥
never_reacts (inl h) = h
never_reacts (inr h) = h

memory_was_wanting : ReactsOn None NoMemory []
memory_was_wanting = tt

-- ---- bounds

long_sources : (bytes : List ℕ) → length bytes ≡ 1048577 → MakesOn None (Limit limits.Source) bytes × ReactsOn None (Limit limits.Source) bytes
long_sources bytes long = (omega (arith, long), omega (arith, long))

no_longer_than_they_may_be : (bytes : List ℕ) → length bytes ≡ 1048576
    → MakesOn None (Limit limits.Source) bytes ⊎ ReactsOn None (Limit limits.Source) bytes → ⊥
no_longer_than_they_may_be bytes long (inl h) = omega (arith, long, h)
no_longer_than_they_may_be bytes long (inr h) = omega (arith, long, h)

long_traces : (bytes : List ℕ) → length bytes ≡ 16777217 → IsLongTrace bytes
long_traces bytes long = omega (arith, long)

no_long_trace_at_the_bound : (bytes : List ℕ) → length bytes ≡ 16777216 → IsLongTrace bytes → ⊥
no_long_trace_at_the_bound bytes long h = omega (arith, long, h)

long_texts : (bytes : List ℕ) → length bytes ≡ 268435457 → ExecutesIn (λ bytes. ⊥) (λ bytes fault. ⊥) (Limit limits.Text) bytes
long_texts bytes long = omega (arith, long)

no_long_text_at_the_bound : (bytes : List ℕ) → length bytes ≡ 268435456 → ExecutesIn (λ bytes. ⊥) (λ bytes fault. ⊥) (Limit limits.Text) bytes → ⊥
no_long_text_at_the_bound bytes long h = omega (arith, long, h)

read_at_the_bound : {P : Type 0} → (reads : List ℕ → P → Type 0) (bytes : List ℕ) (p : P) → length bytes ≡ 268435456 → reads bytes p → IsTextIn reads bytes
read_at_the_bound reads bytes p long read = record { program = p; within = omega (arith, long); read = read }

-- ---- texts that are run

runnable : (bytes : List ℕ) → (IsRunnable Blif bytes → IsTextIn ReadsCircuit bytes) × (IsRunnable C bytes → IsTextIn ReadsAs bytes)
    × (IsRunnable Guard bytes → IsTextIn guarded_reads.ReadsAs bytes) × (IsRunnable Verilog bytes → IsTextIn module_texts.ReadsModule bytes)
runnable bytes = (λ h. h, λ h. h, λ h. h, λ h. h)

faulty : (bytes : List ℕ) (fault : TextFault)
    → (TextHasFault Blif bytes fault → (own : _) × circuits.IsTextFault bytes own × (fault ≡ told.Blif own))
    × (TextHasFault C bytes fault → (own : _) × programs.IsTextFault bytes own × (fault ≡ told.C own))
    × (TextHasFault Guard bytes fault → (own : _) × guarded_texts.IsTextFault bytes own × (fault ≡ told.Guard own))
    × (TextHasFault Verilog bytes fault → (own : _) × module_texts.IsTextFault bytes own × (fault ≡ told.Verilog own))
faulty bytes fault = (λ h. h, λ h. h, λ h. h, λ h. h)

how_texts_run : (bytes trace : List ℕ) (s : SinkChange) (result : Result (Unit {0}) RunFault)
    → (RunsBy Blif bytes trace s result → RunsIn ReadsCircuit (λ c. c.inputs) (λ c. listed_names c.outputs) circuit_shows bytes trace s result)
    × (RunsBy C bytes trace s result → RunsIn ReadsAs bare_inputs bare_outputs program_shows bytes trace s result)
    × (RunsBy Guard bytes trace s result → CountsIn bytes trace s result)
    × (RunsBy Verilog bytes trace s result
    → RunsIn module_texts.ReadsModule modules.bare_inputs modules.bare_outputs modules.module_shows bytes trace s result)
how_texts_run bytes trace s result = (λ h. h, λ h. h, λ h. h, λ h. h)

-- ---- runs of sources

run_by_counts : (main : Option (List ℕ)) (bytes : List ℕ) (p : Program) (trace : Reading) (s : SinkChange) (result : Result (Unit {0}) RunFault)
    (h : RunsVia forms.Guarded main bytes p trace s result)
    → IsGuardedOf bytes main h.text × Describes h.text h.program × RunsCounted (ShowsRun p) (last_line h.program) trace s result
run_by_counts main bytes p trace s result h = (h.made, h.describes, h.ran)

run_by_others : (main : Option (List ℕ)) (bytes : List ℕ) (p : Program) (trace : Reading) (s : SinkChange) (result : Result (Unit {0}) RunFault)
    → RunsVia forms.C main bytes p trace s result → RunsTrace (ShowsRun p) trace s result
run_by_others main bytes p trace s result h = h

run_of_a_source : (main : Option (List ℕ)) (bytes trace : List ℕ) (s : SinkChange) (result : Result (Unit {0}) RunFault)
    (h : RunsSource forms.C main bytes trace s result) → (length bytes ≤ 1048576) × StandsFor bytes main h.program × Compiles h.program
    × RunsVia forms.C main bytes h.program (beginning trace (given_names h.program) h.program.relations) s result
run_of_a_source main bytes trace s result h = (h.short, h.source, h.compiles, h.ran)

what_runs_leave : (Ran : Result (Unit {0}) RunFault → Type 0) (s : SinkChange)
    → (LeavesRun Ran s Done → Ran (Ok tt)) × (LeavesRun Ran s (Trace (traces.BadByte 3)) → Ran (Err (runs.Trace (traces.BadByte 3))))
    × (LeavesRun Ran s WriteFault → Ran (Err runs.Write)) × (LeavesRun Ran s NoMemory → IsUntouched s ⊎ Ran (Err runs.NoMemory))
    × (LeavesRun Ran s Usage → IsUntouched s)
what_runs_leave Ran s = (λ h. h, λ h. h, λ h. h, λ h. h, λ h. h)

nothing_was_run : (s : SinkChange) → IsUntouched s → LeavesRun (λ result. ⊥) s NoMemory
nothing_was_run s same = inl same

-- ---- runs by three-valued reactions

a_graph_source : (main : Option (List ℕ)) (bytes : List ℕ) (h : IsGraphSource main bytes)
    → (length bytes ≤ 1048576) × StandsFor bytes main h.program × KeepsGraphLimits h.program
a_graph_source main bytes h = (h.short, h.source, h.limits)

instants : map event_count ([] ∷ (Event [] ∷ Reset ∷ Event [] ∷ Event [] ∷ []) ∷ (Reset ∷ []) ∷ []) ≡ 0 ∷ 3 ∷ 0 ∷ []
instants = refl

reactions : (main : Option (List ℕ)) (bytes trace : List ℕ) (s : SinkChange) (result : Result (Unit {0}) RunFault) (h : ReactsOver main bytes trace s result)
    → (length bytes ≤ 1048576) × StandsFor bytes main h.program × KeepsGraphLimits h.program
    × RunsTrace (ShowsRun h.program) (beginning trace (given_names h.program) h.program.relations) s result
reactions main bytes trace s result h = (h.short, h.source, h.limits, h.ran)

a_stop : (p : Program) (trace : Reading) (s : SinkChange) (instant : ℕ) (names : List WireName) (h : StopsTrace p trace s instant names)
    → IsTraceFront trace (h.items ++ Event h.event ∷ []) × (instant ≡ trace.instant + event_count h.items) × (names ≡ map (wire_name p) h.unknown)
    × Appends s.before s.after s.faults_before s.faults_now (answer_lines (outgoing_names p) (map line_answer h.stops.answers))
a_stop p trace s instant names h = (h.front, h.number, h.named, h.lines)

a_stop_of_a_source : (main : Option (List ℕ)) (bytes trace : List ℕ) (s : SinkChange) (instant : ℕ) (names : List WireName)
    (h : StopsOver main bytes trace s instant names) → (length bytes ≤ 1048576) × StandsFor bytes main h.program × KeepsGraphLimits h.program
    × StopsTrace h.program (beginning trace (given_names h.program) h.program.relations) s instant names
a_stop_of_a_source main bytes trace s instant names h = (h.short, h.source, h.limits, h.stopped)

what_reactions_leave : (Ran : Result (Unit {0}) RunFault → Type 0) (Stopped : UnknownWires → Type 0) (s : SinkChange) (wires : UnknownWires)
    → (LeavesReactions Ran Stopped s (NotConstructive wires) → Stopped wires) × (LeavesReactions Ran Stopped s Done → Ran (Ok tt))
what_reactions_leave Ran Stopped s wires = (λ h. h, λ h. h)

-- ---- what is written

by_tasks : (IsText : List ℕ → Type 0) (s : SinkChange)
    → (LeavesAnswer (Text forms.C) IsText s NoMemory → texts.LeavesPieces IsText s (Some ends.NoMemory))
    × (LeavesAnswer Grc IsText s NoMemory → texts.LeavesText IsText s (Some ends.NoMemory))
    × (LeavesAnswer Check IsText s NoMemory → texts.LeavesText IsText s (Some ends.NoMemory))
by_tasks IsText s = (λ h. h, λ h. h, λ h. h)

nothing_for_no_request : (s : SinkChange) → GainsOut None None Usage s → Appends s.before s.after s.faults_before s.faults_now []
nothing_for_no_request s h = h

texts_of_no_source : (s : SinkChange)
    → (GainsOut (Some Help) None Done s → texts.LeavesText (λ text. text ≡ help_text) s (Some ends.Done))
    × (GainsOut (Some (Generate 1 2)) None Done s → texts.LeavesText (λ text. text ≡ source_text 1 2) s (Some ends.Done))
    × (GainsOut (Some (Load 1 2 3)) None Done s → texts.LeavesText (IsSummary (source_text 1 2) (state_behind 1 2) 3) s (Some ends.Done))
texts_of_no_source s = (λ h. h, λ h. h, λ h. h)

-- ---- requests of which nothing is refused

whole_traces : (trace : List ℕ) (inputs : List (List ℕ)) (relations : List Relation) (h : IsWholeTrace trace inputs relations)
    → (length trace ≤ 16777216) × IsTrace (beginning trace inputs relations) h.items None
whole_traces trace inputs relations h = (h.short, h.whole)

runs_to_end : (main : Option (List ℕ)) (bytes trace : List ℕ) (h : RunsToEnd forms.C main bytes trace)
    → IsSource main bytes × (WritesLongText forms.C main bytes → ⊥) × IsWholeTrace trace (given_names h.source.program) h.source.program.relations
runs_to_end main bytes trace h = (h.source, h.readable, h.whole)

reacts_to_end : (main : Option (List ℕ)) (bytes trace : List ℕ) (h : ReactsToEnd main bytes trace)
    → IsWholeTrace trace (given_names h.source.program) h.source.program.relations × (run_of h.source.program h.whole.items ≡ Some h.answers)
reacts_to_end main bytes trace h = (h.whole, h.constructive)

comes_to_stop : (main : Option (List ℕ)) (bytes trace : List ℕ) (h : ComesToStop main bytes trace)
    → (length trace ≤ 16777216) × (run_of h.source.program h.items ≡ Some h.answers) × (run_of h.source.program (h.items ++ Event h.event ∷ []) ≡ None)
    × IsTraceFront (beginning trace (given_names h.source.program) h.source.program.relations) (h.items ++ Event h.event ∷ [])
comes_to_stop main bytes trace h = (h.short, h.constructive, h.stops, h.front)

inputs_of_texts : (bytes : List ℕ) (b : IsRunnable Blif bytes) (c : IsRunnable C bytes) (g : IsRunnable Guard bytes) (v : IsRunnable Verilog bytes)
    → (inputs_by Blif bytes b ≡ b.program.inputs) × (inputs_by C bytes c ≡ bare_inputs c.program)
    × (inputs_by Guard bytes g ≡ guardeds.bare_inputs g.program) × (inputs_by Verilog bytes v ≡ modules.bare_inputs v.program)
inputs_of_texts bytes b c g v = (refl, refl, refl, refl)

executes_to_end : (bytes trace : List ℕ) (h : ExecutesToEnd C bytes trace) → IsWholeTrace trace (inputs_by C bytes h.text) []
executes_to_end bytes trace h = h.whole

always_accepted : IsAccepted Help (λ name. []) × IsAccepted (Generate 1 2) (λ name. [])
always_accepted = (tt, tt)

abbrev job : Job
job = record { name = codes "p.strl"; main = None; pick = picks.Last }

what_is_accepted : (held : List ℕ → List ℕ)
    → (IsAccepted (Make Check job) held → IsSource None (held (codes "p.strl")))
    × (IsAccepted (Run forms.C job (codes "t.txt")) held → RunsToEnd forms.C None (held (codes "p.strl")) (held (codes "t.txt")))
    × (IsAccepted (RunTri job (codes "t.txt")) held → ReactsToEnd None (held (codes "p.strl")) (held (codes "t.txt")))
    × (IsAccepted (Exec C (codes "p.c") (codes "t.txt")) held → ExecutesToEnd C (held (codes "p.c")) (held (codes "t.txt")))
    × (IsAccepted (Load 1 2 3) held → IsSource None (source_text 1 2))
what_is_accepted held = (λ h. h, λ h. h, λ h. h, λ h. h, λ h. h)
