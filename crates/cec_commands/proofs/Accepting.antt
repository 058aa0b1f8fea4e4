-- Requests of which nothing is refused end as done, or for want of memory.
use Rattle.std.proofs.Common.{◌≡◌, ℕ, ◌+◌, ◌<◌, ◌≤◌, ◌⊎◌, List, [], ◌∷◌, ◌++◌, length, map, Option, None, Some, Err, inl, inr, refl, sym, ap, ◌∙◌, subst}
use Rattle.std.proofs.Common.{⊎_elim, arith}
use Rattle.base_types.specs.declared.bounds.TheConstants.Limits.{TRACE_BYTES, TEXT_BYTES}
use Rattle.base_types.specs.Faults.{Rose}
use Rattle.base_types.specs.Items.{Item, Event, Reset}
use Rattle.est_gen.specs.Sources.{source_text}
use Rattle.est_kernel.specs.Plain.{Program, Interface, given_names, interface_of}
use Rattle.est_kernel.specs.Reactions.{Answer, Reaction, before, goes_on, react, run_from, run_of}
use Rattle.est_kernel.specs.Terms.{Term}
use Rattle.blif_text.specs.Circuits.{Circuit}
use Rattle.grc_graph.specs.PlainWireNames.{wire_name_of}
use Rattle.grc_graph.specs.WireNames.{WireName}
use Rattle.blif_run.specs.Loops.{IsLoop}
use Rattle.est_front.proofs.Exports.{one_program}
use Rattle.est_front.proofs.Unrefused as front
use Rattle.cec_words.specs.declared.asked.Via.{Via}
use Rattle.cec_words.specs.declared.asked.Via.TheVariants.{Blif, C, Guard, Verilog}
use Rattle.csub_read.specs.declared.refusal.CFault.{CFault}
use Rattle.csub_read.specs.declared.refusal.CFault.TheVariants as c_faults
use Rattle.csub_read.proofs.Exports.{described-are-read}
use Rattle.csub_text.specs.Trees as c_trees
use Rattle.run_trace_io.specs.declared.faults.TraceFault.{TraceFault}
use Rattle.run_trace_io.specs.declared.faults.TraceFault.TheVariants as faults
use Rattle.run_trace_io.specs.Answers.{IsFault, IsTrace, beginning}
use Rattle.run_trace_io.specs.Traces.{Reading, TraceGroup, next_group}
use Rattle.run_trace_io.specs.Traces as groups
use Rattle.run_over_traces.proofs.Exports.{front-of, front-whole}
use Rattle.blif_read.specs.declared.fault.BlifFault.{BlifFault}
use Rattle.blif_read.specs.declared.fault.BlifFault.TheVariants.{Line, TwoDrivers, NoDriver, Loop}
use Rattle.blif_run.specs.Texts.{ReadsCircuit, IsTextFault as IsCircuitFault}
use Rattle.csub_run.specs.Texts.{IsTextFault as IsProgramFault}
use Rattle.csub_read.specs.Faults.{ReadsAs}
use Rattle.csub_guard.specs.Trees as guarded_trees
use Rattle.csub_guard_read.specs.Faults as guarded_reads
use Rattle.csub_guard_read.specs.declared.refusal.GuardedFault.{GuardedFault}
use Rattle.csub_guard_read.specs.declared.refusal.GuardedFault.TheVariants as g_faults
use Rattle.csub_guard_read.specs.Laws as guarded_laws
use Rattle.csub_guard_read.proofs.Exports as guardeds_read
use Rattle.csub_guard_run.specs.CountedRuns.{RunsCounted}
use Rattle.csub_guard_run.specs.ProgramAnswers as guarded_answers
use Rattle.csub_guard_run.specs.Texts as guarded_texts
use Rattle.vlog_read.specs.declared.refusal.VlogFault.TheVariants as v_faults
use Rattle.vlog_read.proofs.ReadBack as modules_read
use Rattle.vlog_read.specs.declared.refusal.VlogFault.{VlogFault}
use Rattle.vlog_read.specs.Faults.{ReadsFault}
use Rattle.vlog_read.specs.Laws.{LacksRoom}
use Rattle.vlog_run.specs.Loops as v_loops
use Rattle.vlog_run.specs.ModuleAnswers as module_answers
use Rattle.vlog_run.specs.Texts as module_texts
use Rattle.vlog_text.specs.Trees.{VerilogModule}
use Rattle.cec_compile.specs.declared.forms.TextForm.{TextForm}
use Rattle.cec_compile.specs.declared.forms.TextForm.TheVariants as forms
use Rattle.cec_commands.specs.declared.text_faults.TextFault.{TextFault}
use Rattle.run_over_traces.specs.declared.running.RunFault.TheVariants as runs
use Rattle.run_over_traces.specs.Machines.{Brings}
use Rattle.run_over_traces.specs.Running.{RunsTrace}
use Rattle.base_types.specs.SinkChanges.{SinkChange}
use Rattle.csub_run.specs.ProgramAnswers.{bare_inputs}
use Rattle.cec_commands.specs.declared.outcome.Outcome.{Outcome}
use Rattle.cec_commands.specs.declared.outcome.Outcome.TheVariants.{Done, Usage, FileFault, Static, Cyclic, Trace, BadText, Limit, WriteFault, NoMemory}
use Rattle.cec_commands.specs.declared.outcome.Outcome.TheVariants.{NotConstructive}
use Rattle.cec_words.specs.declared.common.Which.{Which}
use Rattle.cec_words.specs.declared.common.Which.TheVariants.{First, Second}
use Rattle.cec_compile.specs.declared.refusal.Limit as bounds
use Rattle.cec_compile.specs.declared.refusal.Limit.TheVariants as limits
use Rattle.cec_compile.specs.declared.refusal.Refusal.TheVariants as refusals
use Rattle.cec_commands.specs.Accepted.{RunsToEnd, ReactsToEnd, ExecutesToEnd, IsAccepted}
use Rattle.cec_text_io.specs.Contents.{Content}
use Rattle.cec_commands.specs.ExecTexts.{IsTextIn, IsRunnable, TextHasFault, RunsBy}
use Rattle.cec_commands.specs.Jobs.{Job, Request, Help, Make, Run, RunTri, Exec, Generate, Load}
use Rattle.cec_commands.specs.Laws.{AcceptedRequestsAreDone}
use Rattle.cec_commands.specs.Outcomes.{MakesOn, RunsOn, ExecutesOn, AgreesOnFile, AgreesOnTwo, IsWriting, IsOutcomeOf, CountsFiles, IsTextOf, GainsOut}
use Rattle.cec_commands.specs.Runs.{RunsSource, RunsVia, ShowsRun}
use Rattle.cec_compile.specs.Sources.{IsSource}
use Rattle.cec_commands.specs.Subjects.{LongTrace}
use Rattle.cec_commands.specs.TriRuns.{IsGraphSource, ReactsOn, ReactsOver, StopsOver, StopsTrace}
use Rattle.cec_text_io.proofs.Exports.{never_rose}
use Rattle.cec_commands.proofs.Pieces.{answer_rose}
use Rattle.cec_commands.proofs.Unrefused.{unrefused, passes_limit, within_limits}

-- ---- a trace has one end

end_is_no_fault : (r : Reading) (fault : TraceFault) → next_group r ≡ groups.End → IsFault r fault → ⊥
end_is_no_fault r (faults.Breaks instant number) e is = let both = sym e ∙ is.3 in cc
end_is_no_fault r _ e is = let both = sym e ∙ is in cc

-- a list is not longer than one that begins with it
no_longer : (x : Item) (items more : List Item) → [] ≡ (x ∷ items) ++ more → ⊥
no_longer x items more e =
    let count = ap (λ (l : List Item). length l) e in
    omega (arith, count)

-- a trace that is accepted to its end has no fault
pub whole_has_no_fault : (r : Reading) (items others : List Item) (fault : TraceFault) → IsTrace r items None → IsTrace r others (Some fault) → ⊥
whole_has_no_fault r [] [] fault t u = end_is_no_fault r fault t u
whole_has_no_fault r (x ∷ items) [] fault t u =
    let more = front-of r (x ∷ items) [] (Some fault) (front-whole r (x ∷ items) None t) u in
    no_longer x items more.0 more.1
whole_has_no_fault r [] (x ∷ others) fault t u =
    let more = front-of r (x ∷ others) [] None (front-whole r (x ∷ others) (Some fault) u) t in
    no_longer x others more.0 more.1
whole_has_no_fault r (Reset ∷ items) (Reset ∷ others) fault t u =
    let both = sym t.1 ∙ u.1 in
    let same : u.0 ≡ t.0 = cc both in
    whole_has_no_fault (record r { at = t.0 }) items others fault t.2 (subst (λ b. IsTrace (record r { at = b }) others (Some fault)) same u.2)
whole_has_no_fault r (Reset ∷ items) (Event other ∷ others) fault t u = let both = sym t.1 ∙ u.1 in cc
whole_has_no_fault r (Event event ∷ items) (Reset ∷ others) fault t u = let both = sym t.1 ∙ u.1 in cc
whole_has_no_fault r (Event event ∷ items) (Event other ∷ others) fault t u =
    let both = sym t.1 ∙ u.1 in
    let same : u.0 ≡ t.0 = cc both in
    whole_has_no_fault (record r { at = t.0; instant = r.instant + 1 }) items others fault t.3
    (subst (λ b. IsTrace (record r { at = b; instant = r.instant + 1 }) others (Some fault)) same u.3)

-- ---- what the files hold

on_file : (held : List ℕ → List ℕ) (name : List ℕ) (On : Outcome → List ℕ → Type 0) (outcome : Outcome) → AgreesOnFile (Some held) name On outcome
    → (outcome ≡ FileFault First) ⊎ On outcome (held name)
on_file held name On Done a = inr (subst (On Done) a.1 a.2)
on_file held name On Usage a = inr (subst (On Usage) a.1 a.2)
on_file held name On (FileFault First) a = inl refl
on_file held name On (FileFault Second) a = inr (subst (On (FileFault Second)) a.1 a.2)
on_file held name On (Static fault) a = inr (subst (On (Static fault)) a.1 a.2)
on_file held name On (Cyclic cycle) a = inr (subst (On (Cyclic cycle)) a.1 a.2)
on_file held name On (Trace fault) a = inr (subst (On (Trace fault)) a.1 a.2)
on_file held name On (BadText fault) a = inr (subst (On (BadText fault)) a.1 a.2)
on_file held name On (Limit quantity) a = inr (subst (On (Limit quantity)) a.1 a.2)
on_file held name On WriteFault a = inr (subst (On WriteFault) a.1 a.2)
on_file held name On NoMemory a = inr (subst (On NoMemory) a.1 a.2)
on_file held name On (NotConstructive wires) a = inr (subst (On (NotConstructive wires)) a.1 a.2)

-- the first file and, where that is said, a trace that is too long
pub record OnTwo (held : List ℕ → List ℕ) (name trace : List ℕ) (On : Outcome → List ℕ → Type 0) (outcome : Outcome) : Type 0 where
  pub on : On outcome (held name)
  pub long : LongTrace (Some held) trace outcome

pub on_two : (held : List ℕ → List ℕ) (name trace : List ℕ) (On : Outcome → List ℕ → Type 0) (outcome : Outcome) → AgreesOnTwo (Some held) name trace On outcome
    → (outcome ≡ FileFault First) ⊎ OnTwo held name trace On outcome
on_two held name trace On Done a = inr (record { on = subst (On Done) a.1 a.2; long = tt })
on_two held name trace On Usage a = inr (record { on = subst (On Usage) a.1 a.2; long = tt })
on_two held name trace On (FileFault First) a = inl refl
on_two held name trace On (FileFault Second) a = inr (record { on = subst (On (FileFault Second)) a.1 a.2; long = tt })
on_two held name trace On (Static fault) a = inr (record { on = subst (On (Static fault)) a.1 a.2; long = tt })
on_two held name trace On (Cyclic cycle) a = inr (record { on = subst (On (Cyclic cycle)) a.1 a.2; long = tt })
on_two held name trace On (Trace fault) a = inr (record { on = subst (On (Trace fault)) a.1 a.2; long = tt })
on_two held name trace On (BadText fault) a = inr (record { on = subst (On (BadText fault)) a.1 a.2; long = tt })
on_two held name trace On (Limit limits.Source) a = inr (record { on = subst (On (Limit limits.Source)) a.1 a.2; long = tt })
on_two held name trace On (Limit limits.Trace) a = inr (record { on = subst (On (Limit limits.Trace)) a.0.1 a.0.2; long = a.1 })
on_two held name trace On (Limit limits.Text) a = inr (record { on = subst (On (Limit limits.Text)) a.1 a.2; long = tt })
on_two held name trace On (Limit limits.Nesting) a = inr (record { on = subst (On (Limit limits.Nesting)) a.1 a.2; long = tt })
on_two held name trace On (Limit limits.Statements) a = inr (record { on = subst (On (Limit limits.Statements)) a.1 a.2; long = tt })
on_two held name trace On (Limit limits.Signals) a = inr (record { on = subst (On (Limit limits.Signals)) a.1 a.2; long = tt })
on_two held name trace On (Limit limits.Kernel) a = inr (record { on = subst (On (Limit limits.Kernel)) a.1 a.2; long = tt })
on_two held name trace On (Limit limits.Height) a = inr (record { on = subst (On (Limit limits.Height)) a.1 a.2; long = tt })
on_two held name trace On (Limit limits.Traps) a = inr (record { on = subst (On (Limit limits.Traps)) a.1 a.2; long = tt })
on_two held name trace On (Limit limits.Instances) a = inr (record { on = subst (On (Limit limits.Instances)) a.1 a.2; long = tt })
on_two held name trace On (Limit limits.Wires) a = inr (record { on = subst (On (Limit limits.Wires)) a.1 a.2; long = tt })
on_two held name trace On WriteFault a = inr (record { on = subst (On WriteFault) a.1 a.2; long = tt })
on_two held name trace On NoMemory a = inr (record { on = subst (On NoMemory) a.1 a.2; long = tt })
on_two held name trace On (NotConstructive wires) a = inr (record { on = subst (On (NotConstructive wires)) a.1 a.2; long = tt })

-- ---- counts that do not rise

pub no_file_fault : (request : Request) (outcome : Outcome) (before now : ℕ) (failed_before failed_now : List ℕ) (file : Which)
    → CountsFiles (Some request) outcome before now failed_before failed_now → (Rose before now → ⊥) → outcome ≡ FileFault file → ⊥
no_file_fault request outcome before now failed_before failed_now file counts stays is =
    stays (subst (λ o. CountsFiles (Some request) o before now failed_before failed_now) is counts).0

counted_rose : (Writes : List Item → List ℕ → Type 0) (last : List Item → List ℕ) (trace : Reading) (s : SinkChange)
    → RunsCounted Writes last trace s (Err runs.Write) → Rose s.faults_before s.faults_now
counted_rose Writes last trace s r = ⊎_elim (λ h. h.4.faults) (λ h. h.gained.faults) r

via_rose : (via : TextForm) (main : Option (List ℕ)) (bytes : List ℕ) (p : Program) (trace : Reading) (s : SinkChange)
    → RunsVia via main bytes p trace s (Err runs.Write) → Rose s.faults_before s.faults_now
via_rose forms.Blif main bytes p trace s r = r.4.faults
via_rose forms.EncodedBlif main bytes p trace s r = r.4.faults
via_rose forms.C main bytes p trace s r = r.4.faults
via_rose forms.Guarded main bytes p trace s r = counted_rose (ShowsRun p) (guarded_answers.last_line r.program) trace s r.ran
via_rose forms.Verilog main bytes p trace s r = r.4.faults

gains_rose : (request : Request) (content : Content) (s : SinkChange) → GainsOut (Some request) content WriteFault s → Rose s.faults_before s.faults_now
gains_rose Help content s g = g.2.faults
gains_rose (Make task job) content s g = answer_rose task (IsTextOf task job content) s g
gains_rose (Run via job trace) content s g =
    let p = g.2.2.program in
    via_rose via job.main g.0 p (beginning g.2.0 (given_names p) p.relations) s g.2.2.ran
gains_rose (RunTri job trace) content s g = g.2.2.ran.4.faults
gains_rose (Exec Blif text trace) content s g = g.2.2.ran.4.faults
gains_rose (Exec C text trace) content s g = g.2.2.ran.4.faults
gains_rose (Exec Guard text trace) content s g =
    let p = g.2.2.program in
    counted_rose (Brings guarded_answers.program_shows (guarded_answers.bare_outputs p) p) (guarded_answers.last_line p)
    (beginning g.2.0 (guarded_answers.bare_inputs p) []) s g.2.2.ran
gains_rose (Exec Verilog text trace) content s g = g.2.2.ran.4.faults
gains_rose (Generate start branches) content s g = g.2.faults
gains_rose (Load start branches instants) content s g = g.2.faults

pub no_write_fault : (request : Request) (content : Content) (outcome : Outcome) (s : SinkChange) → GainsOut (Some request) content outcome s
    → (Rose s.faults_before s.faults_now → ⊥) → outcome ≡ WriteFault → ⊥
no_write_fault request content outcome s gains stays is =
    stays (gains_rose request content s (subst (λ o. GainsOut (Some request) content o s) is gains))

-- ---- how commands end

writing_end : (outcome : Outcome) → IsWriting outcome → (outcome ≡ WriteFault → ⊥) → (outcome ≡ Done) ⊎ (outcome ≡ NoMemory)
writing_end Done w written = inl refl
writing_end WriteFault w written = absurd (written refl)
writing_end NoMemory w written = inr refl
writing_end _ w written = absurd w

made_end : (main : Option (List ℕ)) (bytes : List ℕ) (outcome : Outcome) → IsSource main bytes → MakesOn main outcome bytes → (outcome ≡ WriteFault → ⊥)
    → (outcome ≡ Done) ⊎ (outcome ≡ NoMemory)
made_end main bytes Done s m written = inl refl
made_end main bytes Usage s m written = absurd m
made_end main bytes (FileFault file) s m written = absurd m
made_end main bytes (Static fault) s m written = absurd (front.no_fault bytes main s.program fault s.source m.refused)
made_end main bytes (Cyclic cycle) s m written =
    let same = unrefused main bytes (refusals.Cyclic cycle) s m.refused in
    cc
made_end main bytes (Trace fault) s m written = absurd m
made_end main bytes (BadText fault) s m written = absurd m
made_end main bytes (Limit quantity) s m written = absurd (passes_limit main bytes quantity s m)
made_end main bytes WriteFault s m written = absurd (written refl)
made_end main bytes NoMemory s m written = inr refl
made_end main bytes (NotConstructive wires) s m written = absurd m

-- a trace that is too long
long_whole : (held : List ℕ → List ℕ) (trace : List ℕ) → length (held trace) ≤ TRACE_BYTES → LongTrace (Some held) trace (Limit limits.Trace) → ⊥
long_whole held trace short long =
    let passes : TRACE_BYTES < length (held trace) = subst (λ (b : List ℕ). TRACE_BYTES < length b) long.1 long.2 in
    omega (arith, short, passes)

-- a limit that is passed by a source that is run
run_limit : (via : TextForm) (main : Option (List ℕ)) (held : List ℕ → List ℕ) (name trace : List ℕ) (quantity : bounds.Limit)
    → RunsToEnd via main (held name) (held trace) → RunsOn via main (Limit quantity) (held name) → LongTrace (Some held) trace (Limit quantity) → ⊥
run_limit via main held name trace limits.Source w on long = passes_limit main (held name) limits.Source w.source on
run_limit via main held name trace limits.Trace w on long = long_whole held trace w.whole.short long
run_limit via main held name trace limits.Text w on long = w.readable on
run_limit via main held name trace limits.Nesting w on long = passes_limit main (held name) limits.Nesting w.source on
run_limit via main held name trace limits.Statements w on long = passes_limit main (held name) limits.Statements w.source on
run_limit via main held name trace limits.Signals w on long = passes_limit main (held name) limits.Signals w.source on
run_limit via main held name trace limits.Kernel w on long = passes_limit main (held name) limits.Kernel w.source on
run_limit via main held name trace limits.Height w on long = passes_limit main (held name) limits.Height w.source on
run_limit via main held name trace limits.Traps w on long = passes_limit main (held name) limits.Traps w.source on
run_limit via main held name trace limits.Instances w on long = passes_limit main (held name) limits.Instances w.source on
run_limit via main held name trace limits.Wires w on long = passes_limit main (held name) limits.Wires w.source on

-- a trace with a fault, by which text ever it is run over
via_fault : (via : TextForm) (main : Option (List ℕ)) (bytes : List ℕ) (p : Program) (trace : Reading) (s : SinkChange) (fault : TraceFault)
    → RunsVia via main bytes p trace s (Err (runs.Trace fault)) → RunsTrace (ShowsRun p) trace s (Err (runs.Trace fault))
via_fault forms.Blif main bytes p trace s fault r = r
via_fault forms.EncodedBlif main bytes p trace s fault r = r
via_fault forms.C main bytes p trace s fault r = r
via_fault forms.Guarded main bytes p trace s fault r = r.ran
via_fault forms.Verilog main bytes p trace s fault r = r

-- a trace of a source with a fault
run_no_fault : (via : TextForm) (main : Option (List ℕ)) (bytes trace : List ℕ) (s : SinkChange) (fault : TraceFault) → RunsToEnd via main bytes trace
    → RunsSource via main bytes trace s (Err (runs.Trace fault)) → ⊥
run_no_fault via main bytes trace s fault w r =
    let p = w.source.program in
    let same : r.program ≡ p = one_program bytes main r.program p r.source w.source.source in
    let ran = via_fault via main bytes r.program (beginning trace (given_names r.program) r.program.relations) s fault r.ran in
    whole_has_no_fault (beginning trace (given_names p) p.relations) w.whole.items ran.0 fault w.whole.whole
    (subst (λ (q : Program). IsTrace (beginning trace (given_names q) q.relations) ran.0 (Some fault)) same ran.2)

run_trace_fault : (via : TextForm) (job : Job) (held : List ℕ → List ℕ) (trace : List ℕ) (s : SinkChange) (fault : TraceFault)
    → RunsToEnd via job.main (held job.name) (held trace) → GainsOut (Some (Run via job trace)) (Some held) (Trace fault) s → ⊥
run_trace_fault via job held trace s fault w g =
    run_no_fault via job.main (held job.name) (held trace) s fault w
    (subst (λ i. RunsSource via job.main (held job.name) i s (Err (runs.Trace fault))) g.2.1
    (subst (λ b. RunsSource via job.main b g.2.0 s (Err (runs.Trace fault))) g.1 g.2.2))

run_end : (via : TextForm) (job : Job) (held : List ℕ → List ℕ) (trace : List ℕ) (outcome : Outcome) (s : SinkChange)
    → RunsToEnd via job.main (held job.name) (held trace) → OnTwo held job.name trace (RunsOn via job.main) outcome
    → ((file : Which) → outcome ≡ FileFault file → ⊥) → (outcome ≡ WriteFault → ⊥) → GainsOut (Some (Run via job trace)) (Some held) outcome s
    → (outcome ≡ Done) ⊎ (outcome ≡ NoMemory)
run_end via job held trace Done s w on unread written g = inl refl
run_end via job held trace Usage s w on unread written g = absurd on.on
run_end via job held trace (FileFault file) s w on unread written g = absurd (unread file refl)
run_end via job held trace (Static fault) s w on unread written g = made_end job.main (held job.name) (Static fault) w.source on.on written
run_end via job held trace (Cyclic cycle) s w on unread written g = made_end job.main (held job.name) (Cyclic cycle) w.source on.on written
run_end via job held trace (Trace fault) s w on unread written g = absurd (run_trace_fault via job held trace s fault w g)
run_end via job held trace (BadText fault) s w on unread written g = absurd on.on
run_end via job held trace (Limit quantity) s w on unread written g = absurd (run_limit via job.main held job.name trace quantity w on.on on.long)
run_end via job held trace WriteFault s w on unread written g = absurd (written refl)
run_end via job held trace NoMemory s w on unread written g = inr refl
run_end via job held trace (NotConstructive wires) s w on unread written g = absurd on.on

-- ---- reactions

-- a run that has no answers has none with more items behind it
pub none_behind : (i : Interface) (body r : Term) (items more : List Item) → run_from i body r items ≡ None → run_from i body r (items ++ more) ≡ None
none_behind i body r [] more e = cc
none_behind i body r (Reset ∷ items) more e = none_behind i body body items more e
none_behind i body r (Event event ∷ items) more e = by (λ s h. none_behind i body s items more h) (react i r event) e
  where
    later : (a : Answer) (o : Option (List Answer)) → before a o ≡ None → o ≡ None
    later a None h = refl
    later a (Some answers) h = cc

    by : ((s : Term) → run_from i body s items ≡ None → run_from i body s (items ++ more) ≡ None) → (o : Option Reaction)
        → goes_on o (λ s. run_from i body s items) ≡ None → goes_on o (λ s. run_from i body s (items ++ more)) ≡ None
    by behind None h = refl
    by behind (Some x) h = ap (before x.answer) (behind x.residual (later x.answer (run_from i body x.residual items) h))

-- a limit that is passed by a source that is run so
pub react_limit : (main : Option (List ℕ)) (held : List ℕ → List ℕ) (name trace : List ℕ) (quantity : bounds.Limit) → IsGraphSource main (held name)
    → length (held trace) ≤ TRACE_BYTES
    → ReactsOn main (Limit quantity) (held name) → LongTrace (Some held) trace (Limit quantity) → ⊥
react_limit main held name trace limits.Source source short on long = within_limits main (held name) limits.Source source on
react_limit main held name trace limits.Trace source short on long = long_whole held trace short long
react_limit main held name trace limits.Text source short on long = within_limits main (held name) limits.Text source on.refused
react_limit main held name trace limits.Nesting source short on long = within_limits main (held name) limits.Nesting source on.refused
react_limit main held name trace limits.Statements source short on long = within_limits main (held name) limits.Statements source on.refused
react_limit main held name trace limits.Signals source short on long = within_limits main (held name) limits.Signals source on.refused
react_limit main held name trace limits.Kernel source short on long = within_limits main (held name) limits.Kernel source on.refused
react_limit main held name trace limits.Height source short on long = within_limits main (held name) limits.Height source on.refused
react_limit main held name trace limits.Traps source short on long = within_limits main (held name) limits.Traps source on.refused
react_limit main held name trace limits.Instances source short on long = within_limits main (held name) limits.Instances source on.refused
react_limit main held name trace limits.Wires source short on long = within_limits main (held name) limits.Wires source on.refused

-- a trace of a source with a fault
react_no_fault : (main : Option (List ℕ)) (bytes trace : List ℕ) (s : SinkChange) (fault : TraceFault) → ReactsToEnd main bytes trace
    → ReactsOver main bytes trace s (Err (runs.Trace fault)) → ⊥
react_no_fault main bytes trace s fault w r =
    let p = w.source.program in
    let same : r.program ≡ p = one_program bytes main r.program p r.source w.source.source in
    whole_has_no_fault (beginning trace (given_names p) p.relations) w.whole.items r.ran.0 fault w.whole.whole
    (subst (λ (q : Program). IsTrace (beginning trace (given_names q) q.relations) r.ran.0 (Some fault)) same r.ran.2)

-- an instant of it that is not constructive
react_no_stop : (main : Option (List ℕ)) (bytes trace : List ℕ) (s : SinkChange) (instant : ℕ) (names : List WireName) → ReactsToEnd main bytes trace
    → StopsOver main bytes trace s instant names → ⊥
react_no_stop main bytes trace s instant names w o =
    let p = w.source.program in
    let same : o.program ≡ p = one_program bytes main o.program p o.source w.source.source in
    let reading = beginning trace (given_names p) p.relations in
    let stopped = subst (λ (q : Program). StopsTrace q (beginning trace (given_names q) q.relations) s instant names) same o.stopped in
    let first = stopped.items ++ Event stopped.event ∷ [] in
    let more = front-of reading first w.whole.items None stopped.front w.whole.whole in
    let none : run_of p (first ++ more.0) ≡ None = none_behind (interface_of p) p.body p.body first more.0 stopped.stops.stops in
    let both : None ≡ Some w.answers = sym none ∙ ap (run_of p) (sym more.1) ∙ w.constructive in
    cc

react_end : (job : Job) (held : List ℕ → List ℕ) (trace : List ℕ) (outcome : Outcome) (s : SinkChange)
    → ReactsToEnd job.main (held job.name) (held trace) → OnTwo held job.name trace (ReactsOn job.main) outcome
    → ((file : Which) → outcome ≡ FileFault file → ⊥) → (outcome ≡ WriteFault → ⊥) → GainsOut (Some (RunTri job trace)) (Some held) outcome s
    → (outcome ≡ Done) ⊎ (outcome ≡ NoMemory)
react_end job held trace Done s w on unread written g = inl refl
react_end job held trace Usage s w on unread written g = absurd on.on
react_end job held trace (FileFault file) s w on unread written g = absurd (unread file refl)
react_end job held trace (Static fault) s w on unread written g =
    absurd (front.no_fault (held job.name) job.main w.source.program fault w.source.source on.on.refused)
react_end job held trace (Cyclic cycle) s w on unread written g = absurd on.on
react_end job held trace (Trace fault) s w on unread written g =
    absurd (react_no_fault job.main (held job.name) (held trace) s fault w
    (subst (λ i. ReactsOver job.main (held job.name) i s (Err (runs.Trace fault))) g.2.1
    (subst (λ b. ReactsOver job.main b g.2.0 s (Err (runs.Trace fault))) g.1 g.2.2)))
react_end job held trace (BadText fault) s w on unread written g = absurd on.on
react_end job held trace (Limit quantity) s w on unread written g =
    absurd (react_limit job.main held job.name trace quantity w.source w.whole.short on.on on.long)
react_end job held trace WriteFault s w on unread written g = absurd (written refl)
react_end job held trace NoMemory s w on unread written g = inr refl
react_end job held trace (NotConstructive wires) s w on unread written g =
    let names = map wire_name_of wires.wires.items in
    absurd (react_no_stop job.main (held job.name) (held trace) s wires.instant names w
    (subst (λ i. StopsOver job.main (held job.name) i s wires.instant names) g.2.1
    (subst (λ b. StopsOver job.main b g.2.0 s wires.instant names) g.1 g.2.2)))

-- ---- texts

-- a text that is read has none of the reader's faults
read_no_fault : (bytes : List ℕ) (fault : VlogFault) → IsTextIn module_texts.ReadsModule bytes → ReadsFault bytes fault → LacksRoom bytes fault
read_no_fault bytes fault t h = (modules_read.described-are-read bytes t.program t.read.is_read.describes).refusals fault h

circuit_no_fault : (bytes : List ℕ) (fault : BlifFault) → IsTextIn ReadsCircuit bytes → IsCircuitFault bytes fault → ⊥
circuit_no_fault bytes (Line number) t h = let both = sym t.read.is_read ∙ h in cc
circuit_no_fault bytes (TwoDrivers name) t h = let both = sym t.read.is_read ∙ h in cc
circuit_no_fault bytes (NoDriver name) t h = let both = sym t.read.is_read ∙ h in cc
circuit_no_fault bytes (Loop names) t h =
    let both = sym t.read.is_read ∙ h.1 in
    let same : h.0 ≡ t.program = cc both in
    t.read.acyclic names.items (subst (λ (c : Circuit). IsLoop c names.items) same h.2)
circuit_no_fault bytes _ t h = h

program_no_fault : (bytes : List ℕ) (fault : CFault) → IsTextIn ReadsAs bytes → IsProgramFault bytes fault → ⊥
program_no_fault bytes (c_faults.Syntax place) t h = (described-are-read bytes t.program t.read.describes).refusals (c_faults.Syntax place) (t.read.short, h)
program_no_fault bytes (c_faults.Twice name) t h = (described-are-read bytes t.program t.read.describes).refusals (c_faults.Twice name) (t.read.short, h)
program_no_fault bytes (c_faults.Undeclared name) t h =
    (described-are-read bytes t.program t.read.describes).refusals (c_faults.Undeclared name) (t.read.short, h)
program_no_fault bytes (c_faults.Unset name) t h = (described-are-read bytes t.program t.read.describes).refusals (c_faults.Unset name) (t.read.short, h)
program_no_fault bytes _ t h = h

guarded_lacks : (bytes : List ℕ) (fault : GuardedFault) → IsTextIn guarded_reads.ReadsAs bytes → guarded_reads.ReadsFault bytes fault
    → guarded_laws.LacksRoom bytes fault
guarded_lacks bytes fault t h = (guardeds_read.described-are-read bytes t.program t.read.describes).refusals fault h

guarded_no_fault : (bytes : List ℕ) (fault : GuardedFault) → IsTextIn guarded_reads.ReadsAs bytes → guarded_texts.IsTextFault bytes fault → ⊥
guarded_no_fault bytes (g_faults.Syntax place) t h = guarded_lacks bytes (g_faults.Syntax place) t (t.read.short, h)
guarded_no_fault bytes (g_faults.Twice name) t h = guarded_lacks bytes (g_faults.Twice name) t (t.read.short, h)
guarded_no_fault bytes (g_faults.Undeclared name) t h = guarded_lacks bytes (g_faults.Undeclared name) t (t.read.short, h)
guarded_no_fault bytes (g_faults.Again name) t h = guarded_lacks bytes (g_faults.Again name) t (t.read.short, h)
guarded_no_fault bytes (g_faults.Unset name) t h = guarded_lacks bytes (g_faults.Unset name) t (t.read.short, h)
guarded_no_fault bytes _ t h = h

module_no_fault : (bytes : List ℕ) (fault : VlogFault) → IsTextIn module_texts.ReadsModule bytes → module_texts.IsTextFault bytes fault → ⊥
module_no_fault bytes (v_faults.Syntax place) t h = read_no_fault bytes (v_faults.Syntax place) t (t.read.is_read.short, h)
module_no_fault bytes (v_faults.Twice name) t h = read_no_fault bytes (v_faults.Twice name) t (t.read.is_read.short, h)
module_no_fault bytes (v_faults.Port name) t h = read_no_fault bytes (v_faults.Port name) t (t.read.is_read.short, h)
module_no_fault bytes (v_faults.Undeclared name) t h = read_no_fault bytes (v_faults.Undeclared name) t (t.read.is_read.short, h)
module_no_fault bytes (v_faults.TwoDrivers name) t h = read_no_fault bytes (v_faults.TwoDrivers name) t (t.read.is_read.short, h)
module_no_fault bytes (v_faults.NoDriver name) t h = read_no_fault bytes (v_faults.NoDriver name) t (t.read.is_read.short, h)
module_no_fault bytes (v_faults.Loop names) t h =
    t.read.acyclic names.items (subst (λ (m : VerilogModule). v_loops.IsLoop m names.items) (t.read.is_read.only h.0 h.1.describes) h.2)
module_no_fault bytes _ t h = h

text_no_fault : (via : Via) (bytes : List ℕ) (fault : TextFault) → IsRunnable via bytes → TextHasFault via bytes fault → ⊥
text_no_fault Blif bytes fault t h = circuit_no_fault bytes h.0 t h.1
text_no_fault C bytes fault t h = program_no_fault bytes h.0 t h.1
text_no_fault Guard bytes fault t h = guarded_no_fault bytes h.0 t h.1
text_no_fault Verilog bytes fault t h = module_no_fault bytes h.0 t h.1

text_short : (via : Via) (bytes : List ℕ) → IsRunnable via bytes → length bytes ≤ TEXT_BYTES
text_short Blif bytes t = t.within
text_short C bytes t = t.within
text_short Guard bytes t = t.within
text_short Verilog bytes t = t.within

-- a trace of a text with a fault
text_run_no_fault : (via : Via) (bytes trace : List ℕ) (s : SinkChange) (fault : TraceFault) → ExecutesToEnd via bytes trace
    → RunsBy via bytes trace s (Err (runs.Trace fault)) → ⊥
text_run_no_fault Blif bytes trace s fault w r =
    let both = sym r.read.is_read ∙ w.text.read.is_read in
    let same : r.program ≡ w.text.program = cc both in
    whole_has_no_fault (beginning trace w.text.program.inputs []) w.whole.items r.ran.0 fault w.whole.whole
    (subst (λ (c : Circuit). IsTrace (beginning trace c.inputs []) r.ran.0 (Some fault)) same r.ran.2)
text_run_no_fault C bytes trace s fault w r =
    let same : r.program ≡ w.text.program = w.text.read.only r.program r.read.describes in
    whole_has_no_fault (beginning trace (bare_inputs w.text.program) []) w.whole.items r.ran.0 fault w.whole.whole
    (subst (λ (p : c_trees.Program). IsTrace (beginning trace (bare_inputs p) []) r.ran.0 (Some fault)) same r.ran.2)
text_run_no_fault Guard bytes trace s fault w r =
    let same : r.program ≡ w.text.program = w.text.read.only r.program r.read.describes in
    whole_has_no_fault (beginning trace (guarded_answers.bare_inputs w.text.program) []) w.whole.items r.ran.0 fault w.whole.whole
    (subst (λ (p : guarded_trees.Program). IsTrace (beginning trace (guarded_answers.bare_inputs p) []) r.ran.0 (Some fault)) same r.ran.2)
text_run_no_fault Verilog bytes trace s fault w r =
    let same : r.program ≡ w.text.program = w.text.read.is_read.only r.program r.read.is_read.describes in
    whole_has_no_fault (beginning trace (module_answers.bare_inputs w.text.program) []) w.whole.items r.ran.0 fault w.whole.whole
    (subst (λ (m : VerilogModule). IsTrace (beginning trace (module_answers.bare_inputs m) []) r.ran.0 (Some fault)) same r.ran.2)

text_trace_fault : (via : Via) (held : List ℕ → List ℕ) (text trace : List ℕ) (s : SinkChange) (fault : TraceFault) → ExecutesToEnd via (held text) (held trace)
    → GainsOut (Some (Exec via text trace)) (Some held) (Trace fault) s → ⊥
text_trace_fault via held text trace s fault w g =
    text_run_no_fault via (held text) (held trace) s fault w
    (subst (λ i. RunsBy via (held text) i s (Err (runs.Trace fault))) g.2.1
    (subst (λ b. RunsBy via b g.2.0 s (Err (runs.Trace fault))) g.1 g.2.2))

text_limit : (via : Via) (held : List ℕ → List ℕ) (text trace : List ℕ) (quantity : bounds.Limit) → ExecutesToEnd via (held text) (held trace)
    → ExecutesOn via (Limit quantity) (held text) → LongTrace (Some held) trace (Limit quantity) → ⊥
text_limit via held text trace limits.Source w on long = on
text_limit via held text trace limits.Trace w on long = long_whole held trace w.whole.short long
text_limit via held text trace limits.Text w on long =
    let short = text_short via (held text) w.text in
    omega (arith, short, on)
text_limit via held text trace limits.Nesting w on long = on
text_limit via held text trace limits.Statements w on long = on
text_limit via held text trace limits.Signals w on long = on
text_limit via held text trace limits.Kernel w on long = on
text_limit via held text trace limits.Height w on long = on
text_limit via held text trace limits.Traps w on long = on
text_limit via held text trace limits.Instances w on long = on
text_limit via held text trace limits.Wires w on long = on

exec_end : (via : Via) (held : List ℕ → List ℕ) (text trace : List ℕ) (outcome : Outcome) (s : SinkChange) → ExecutesToEnd via (held text) (held trace)
    → OnTwo held text trace (ExecutesOn via) outcome → ((file : Which) → outcome ≡ FileFault file → ⊥) → (outcome ≡ WriteFault → ⊥)
    → GainsOut (Some (Exec via text trace)) (Some held) outcome s → (outcome ≡ Done) ⊎ (outcome ≡ NoMemory)
exec_end via held text trace Done s w on unread written g = inl refl
exec_end via held text trace (FileFault file) s w on unread written g = absurd (unread file refl)
exec_end via held text trace (Trace fault) s w on unread written g = absurd (text_trace_fault via held text trace s fault w g)
exec_end via held text trace (BadText fault) s w on unread written g = absurd (text_no_fault via (held text) fault w.text on.on.1)
exec_end via held text trace (Limit quantity) s w on unread written g = absurd (text_limit via held text trace quantity w on.on on.long)
exec_end via held text trace WriteFault s w on unread written g = absurd (written refl)
exec_end via held text trace NoMemory s w on unread written g = inr refl
exec_end via held text trace _ s w on unread written g = absurd on.on

-- ---- requests

pub accepted_done : AcceptedRequestsAreDone
accepted_done Help held outcome before now failed_before failed_now s w agrees counts stays gains still =
    writing_end outcome agrees (no_write_fault Help (Some held) outcome s gains still)
accepted_done (Make task job) held outcome before now failed_before failed_now s w agrees counts stays gains still =
    let request = Make task job in
    ⊎_elim (λ is. absurd (no_file_fault request outcome before now failed_before failed_now First counts stays is))
    (λ on. made_end job.main (held job.name) outcome w on (no_write_fault request (Some held) outcome s gains still))
    (on_file held job.name (MakesOn job.main) outcome agrees)
accepted_done (Run via job trace) held outcome before now failed_before failed_now s w agrees counts stays gains still =
    let request = Run via job trace in
    ⊎_elim (λ is. absurd (no_file_fault request outcome before now failed_before failed_now First counts stays is))
    (λ on. run_end via job held trace outcome s w on (λ file. no_file_fault request outcome before now failed_before failed_now file counts stays)
    (no_write_fault request (Some held) outcome s gains still) gains)
    (on_two held job.name trace (RunsOn via job.main) outcome agrees)
accepted_done (RunTri job trace) held outcome before now failed_before failed_now s w agrees counts stays gains still =
    let request = RunTri job trace in
    ⊎_elim (λ is. absurd (no_file_fault request outcome before now failed_before failed_now First counts stays is))
    (λ on. react_end job held trace outcome s w on (λ file. no_file_fault request outcome before now failed_before failed_now file counts stays)
    (no_write_fault request (Some held) outcome s gains still) gains)
    (on_two held job.name trace (ReactsOn job.main) outcome agrees)
accepted_done (Exec via text trace) held outcome before now failed_before failed_now s w agrees counts stays gains still =
    let request = Exec via text trace in
    ⊎_elim (λ is. absurd (no_file_fault request outcome before now failed_before failed_now First counts stays is))
    (λ on. exec_end via held text trace outcome s w on (λ file. no_file_fault request outcome before now failed_before failed_now file counts stays)
    (no_write_fault request (Some held) outcome s gains still) gains)
    (on_two held text trace (ExecutesOn via) outcome agrees)
accepted_done (Generate start branches) held outcome before now failed_before failed_now s w agrees counts stays gains still =
    writing_end outcome agrees (no_write_fault (Generate start branches) (Some held) outcome s gains still)
accepted_done (Load start branches instants) held outcome before now failed_before failed_now s w agrees counts stays gains still =
    made_end None (source_text start branches) outcome w agrees (no_write_fault (Load start branches instants) (Some held) outcome s gains still)

-- over files and sinks that count no fault
pub steady_end : (asks : Option Request) (request : Request) (held : List ℕ → List ℕ) (outcome : Outcome) (old new : Option (List ℕ))
    → asks ≡ Some request → IsAccepted request held → IsOutcomeOf asks (Some held) outcome → CountsFiles asks outcome 0 0 [] []
    → GainsOut asks (Some held) outcome (record { before = old; after = new; faults_before = 0; faults_now = 0 })
    → (outcome ≡ Done) ⊎ (outcome ≡ NoMemory)
steady_end asks request held outcome old new is w agrees counts gains =
    let s : SinkChange = record { before = old; after = new; faults_before = 0; faults_now = 0 } in
    accepted_done request held outcome 0 0 [] [] s w (subst (λ a. IsOutcomeOf a (Some held) outcome) is agrees)
    (subst (λ a. CountsFiles a outcome 0 0 [] []) is counts) never_rose (subst (λ a. GainsOut a (Some held) outcome s) is gains) never_rose
