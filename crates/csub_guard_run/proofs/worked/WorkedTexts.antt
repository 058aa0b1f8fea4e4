-- Written by hand: what the first fault of a text says, row by row, what it means that a text means a netlist, and how a run whose calls are counted
-- ends.
use Rattle.std.proofs.Common.{◌≡◌, ◌++◌, ℕ, List, [], ◌∷◌, length, map, None, Some, Ok, Err, refl, inl, inr, lit≤}
use Rattle.base_types.specs.Items.{Item, EachEvent}
use Rattle.base_types.specs.SinkChanges.{SinkChange}
use Rattle.base_types.specs.Writing.{Appends}
use Rattle.base_machines.specs.Machines.{Shows}
use Rattle.net_ir.specs.Netlists.{Netlist}
use Rattle.net_ir.specs.Runs.{net_run}
use Rattle.csub_text.specs.Machine.{first_memory}
use Rattle.csub_text.specs.Written.{input_variable, output_variable, shown_by_call}
use Rattle.csub_guard.specs.Machine.{inputs_of, outputs_of, run, guarded_machine}
use Rattle.csub_guard.specs.Names as names
use Rattle.csub_guard.specs.Texts.{Describes}
use Rattle.csub_guard.specs.Trees.{Program}
use Rattle.csub_guard_read.specs.Faults.{ReadsAs, IsSyntaxFault, IsNameFault}
use Rattle.csub_guard_read.specs.declared.refusal.GuardedFault.TheVariants.{Syntax, Twice, Undeclared, Again, Unset}
use Rattle.csub_guard_run.specs.CountedRuns.{ReadsWholeTrace, RunsCounted, CountsProgram, CountsIn, CountsNet}
use Rattle.csub_guard_run.specs.ProgramAnswers.{program_shows, call_answer, last_line, bare_inputs, bare_outputs}
use Rattle.csub_guard_run.specs.Texts.{IsTextFault, Means}
use Rattle.run_trace_io.specs.Answers.{IsTrace, beginning}
use Rattle.run_trace_io.specs.declared.faults.TraceFault.{TraceFault}
use Rattle.run_trace_io.specs.Traces.{Reading}
use Rattle.run_over_traces.specs.Languages.{ShowsNet}
use Rattle.run_over_traces.specs.Machines.{ShownAnswer, Brings}
use Rattle.run_over_traces.specs.Running.{IsTraceFront}
use Rattle.run_over_traces.specs.declared.running.RunFault.TheVariants.{Trace, Write, NoMemory}

-- ---- faults

syntax : (text : List ℕ) (at : ℕ) → IsTextFault text (Syntax at) → IsSyntaxFault text at
syntax text at h = h

twice : (text name : List ℕ) → IsTextFault text (Twice name) → IsNameFault text (names.Twice name)
twice text name h = h

undeclared : (text name : List ℕ) → IsTextFault text (Undeclared name) → IsNameFault text (names.Undeclared name)
undeclared text name h = h

again : (text name : List ℕ) → IsTextFault text (Again name) → IsNameFault text (names.Again name)
again text name h = h

unset : (text name : List ℕ) → IsTextFault text (Unset name) → IsNameFault text (names.Unset name)
unset text name h = h

-- ---- netlists and machines

what_it_means : (text : List ℕ) (net : Netlist) (h : Means text net)
    → Describes text h.program × (inputs_of h.program ≡ map input_variable net.inputs) × (outputs_of h.program ≡ map output_variable net.outputs)
    × ((items : List Item) → EachEvent (λ inputs. length inputs ≡ length net.inputs) items → run h.program items ≡ map shown_by_call (net_run net items))
what_it_means text net h = (h.describes, h.inputs, h.outputs, h.shows)

what_is_shown : (p : Program) (items : List Item) (answers : List ShownAnswer) → program_shows p items answers
    → Shows (guarded_machine p) (call_answer p) (first_memory p.states) items answers
what_is_shown p items answers h = h

-- ---- how runs end: items bring about 1, and their last line is 2

abbrev Writes : List Item → List ℕ → Type 0
Writes items text = text ≡ 1 ∷ []

abbrev last : List Item → List ℕ
last items = 2 ∷ []

-- a sink of nothing that gains these bytes, and counts this number of faults more
abbrev gains : List ℕ → ℕ → SinkChange
gains bytes faults = record { before = Some []; after = Some bytes; faults_before = 0; faults_now = faults }

done : (trace : Reading) (items : List Item) → IsTrace trace items None → RunsCounted Writes last trace (gains (1 ∷ 2 ∷ []) 0) (Ok tt)
done trace items whole =
    record { items = items; text = 1 ∷ []; whole = whole; writes = refl; gained = record { faults = refl; whole = refl } }

-- the last line alone comes from a failed write behind the whole trace
stopped_in_the_last_line : (trace : Reading) (items : List Item) → IsTrace trace items None → RunsCounted Writes last trace (gains (1 ∷ 2 ∷ []) 1) (Err Write)
stopped_in_the_last_line trace items whole = inr (record {
  items = items;
  text = 1 ∷ [];
  whole = whole;
  writes = refl;
  gained = record { faults = record { kept = lit≤ tt; more = lit≤ tt }; front = record { taken = 2; gains = refl } };
})

stopped_before : (trace : Reading) (items : List Item) → IsTraceFront trace items → RunsCounted Writes last trace (gains (1 ∷ []) 1) (Err Write)
stopped_before trace items front = inl (
  items,
  1 ∷ [],
  front,
  refl,
  record {
    faults = record { kept = lit≤ tt; more = lit≤ tt };
    front = record { taken = 1; gains = refl };
  },
)

for_want_of_memory : (trace : Reading) (items : List Item) → IsTraceFront trace items → RunsCounted Writes last trace (gains (1 ∷ []) 0) (Err NoMemory)
for_want_of_memory trace items front = (items, 1 ∷ [], front, refl, refl, record { taken = 1; gains = refl })

no_last_line_behind_a_fault : (trace : Reading) (items : List Item) (fault : TraceFault) → IsTrace trace items (Some fault)
    → RunsCounted Writes last trace (gains (1 ∷ []) 0) (Err (Trace fault))
no_last_line_behind_a_fault trace items fault faulty = (items, 1 ∷ [], faulty, refl, record { faults = refl; whole = refl })

not_without_the_last_line : (trace : Reading) → RunsCounted Writes last trace (gains (1 ∷ []) 0) (Ok tt) → ⊥
not_without_the_last_line trace h = let text = h.writes in let gained = h.gained.whole in differ h.text text gained
  where
    differ : (text : List ℕ) → text ≡ 1 ∷ [] → 1 ∷ [] ≡ text ++ 2 ∷ [] → ⊥
    differ text refl e = cc

the_whole_trace : (trace : Reading) (s : SinkChange) (h : RunsCounted Writes last trace s (Ok tt)) → IsTrace trace h.items None
the_whole_trace trace s h = h.whole

-- ---- of texts

how_a_program_is_run : (p : Program) (trace : List ℕ) (s : SinkChange) → CountsProgram p trace s (Ok tt)
    → ReadsWholeTrace (Brings program_shows (bare_outputs p) p) (last_line p) (beginning trace (bare_inputs p) [])
    (Appends s.before s.after s.faults_before s.faults_now)
how_a_program_is_run p trace s h = h

how_a_text_is_run : (text trace : List ℕ) (s : SinkChange) (h : CountsIn text trace s (Ok tt))
    → ReadsAs text h.program × CountsProgram h.program trace s (Ok tt)
how_a_text_is_run text trace s h = (h.read, h.ran)

how_a_net_is_run : (text : List ℕ) (outputs : List (List ℕ)) (net : Netlist) (trace : Reading) (s : SinkChange) (h : CountsNet text outputs net trace s (Ok tt))
    → Describes text h.program × RunsCounted (ShowsNet outputs net) (last_line h.program) trace s (Ok tt)
how_a_net_is_run text outputs net trace s h = (h.describes, h.ran)
