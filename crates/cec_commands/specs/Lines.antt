-- To believe: the line that is written about an outcome.
use Rattle.std.specs.Prelude.{◌≡◌, ℕ, ⊤, List, [], ◌++◌, Option, Some, codes, decimal, map}
use Rattle.std.specs.Prelude.{unwrap_or}
use Rattle.est_gen.specs.Sources.{source_text}
use Rattle.grc_graph.specs.PlainWireNames.{wire_name_of}
use Rattle.grc_graph.specs.WireNames.{WireName}
use Rattle.run_trace_io.specs.declared.faults.TraceFault.{TraceFault}
use Rattle.run_trace_io.specs.declared.faults.TraceFault.TheVariants as traces
use Rattle.csub_read.specs.declared.refusal.CFault.{CFault}
use Rattle.csub_read.specs.declared.refusal.CFault.TheVariants.{TooLong, Syntax, Twice, Undeclared, Unset}
use Rattle.csub_guard_read.specs.declared.refusal.GuardedFault.{GuardedFault}
use Rattle.csub_guard_read.specs.declared.refusal.GuardedFault.TheVariants as guarded_faults
use Rattle.vlog_read.specs.declared.refusal.VlogFault.{VlogFault}
use Rattle.vlog_read.specs.declared.refusal.VlogFault.TheVariants as module_faults
use Rattle.cec_commands.specs.declared.text_faults.TextFault.{TextFault}
use Rattle.cec_commands.specs.declared.text_faults.TextFault.TheVariants as texts
use Rattle.est_front.specs.Lines.{fault_text}
use Rattle.cec_commands.specs.declared.outcome.Outcome.{Outcome}
use Rattle.cec_commands.specs.declared.outcome.Outcome.TheVariants.{Done, Usage, FileFault, Static, Cyclic, Trace}
use Rattle.cec_commands.specs.declared.outcome.Outcome.TheVariants.{BadText}
use Rattle.cec_commands.specs.declared.outcome.Outcome.TheVariants.{Limit, WriteFault, NoMemory, NotConstructive}
use Rattle.cec_words.specs.declared.common.Which.{Which}
use Rattle.cec_words.specs.declared.common.Which.TheVariants.{First, Second}
use Rattle.cec_compile.specs.declared.refusal.Limit as bounds
use Rattle.cec_compile.specs.declared.refusal.Limit.TheVariants as limits
use Rattle.cec_text_io.specs.Contents.{Content, IsHeld}
use Rattle.cec_text_io.specs.ErrorLines.{GainsLine, joined_names}
use Rattle.cec_refusals.specs.BlifFaults.{blif_fault_text}
use Rattle.cec_compile.specs.Cycles.{cycle_text}
use Rattle.cec_commands.specs.Jobs.{Job, Request, Make, Run, RunTri, Exec, Load}
use Rattle.cec_compile.specs.WireTexts.{joined_texts}

-- what a line may speak of: the names of the two files, the main module's name, and the source
pub record Subject : Type 0 where
  pub name : List ℕ
  pub trace : List ℕ
  pub main : List ℕ
  pub source : List ℕ

abbrev pub file_name : Subject → Which → List ℕ
file_name x First = x.name
file_name x Second = x.trace

abbrev pub limit_word : bounds.Limit → List ℕ
limit_word limits.Source = codes "source"
limit_word limits.Trace = codes "trace"
limit_word limits.Text = codes "text"
limit_word limits.Nesting = codes "nesting"
limit_word limits.Statements = codes "statements"
limit_word limits.Signals = codes "signals"
limit_word limits.Kernel = codes "kernel"
limit_word limits.Height = codes "height"
limit_word limits.Traps = codes "traps"
limit_word limits.Instances = codes "instances"
limit_word limits.Wires = codes "wires"

-- a text about an instant of a trace
abbrev pub in_instant : ℕ → List ℕ → List ℕ
in_instant instant text = codes "instant " ++ (decimal instant ++ text)

abbrev pub trace_text : TraceFault → List ℕ
trace_text (traces.BadByte place) = codes "byte " ++ (decimal place ++ codes ": bad byte")
trace_text (traces.UnknownInput instant name) = in_instant instant (codes ": unknown input " ++ name)
trace_text (traces.Repeated instant name) = in_instant instant (codes ": repeated " ++ name)
trace_text (traces.BadReset instant) = in_instant instant (codes ": bad reset")
trace_text (traces.OpenInstant instant) = in_instant instant (codes ": open")
trace_text (traces.Breaks instant relation) = in_instant instant (codes ": breaks relation " ++ decimal relation)

abbrev pub program_fault_text : CFault → List ℕ
program_fault_text TooLong = codes "limit: text"
program_fault_text (Syntax place) = codes "byte " ++ (decimal place ++ codes ": syntax")
program_fault_text (Twice name) = codes "declared twice: " ++ name
program_fault_text (Undeclared name) = codes "undeclared: " ++ name
program_fault_text (Unset name) = codes "unset: " ++ name

abbrev pub guarded_fault_text : GuardedFault → List ℕ
guarded_fault_text guarded_faults.TooLong = codes "limit: text"
guarded_fault_text (guarded_faults.Syntax place) = codes "byte " ++ (decimal place ++ codes ": syntax")
guarded_fault_text (guarded_faults.Twice name) = codes "declared twice: " ++ name
guarded_fault_text (guarded_faults.Undeclared name) = codes "undeclared: " ++ name
guarded_fault_text (guarded_faults.Again name) = codes "assigned twice: " ++ name
guarded_fault_text (guarded_faults.Unset name) = codes "unset: " ++ name

abbrev pub module_fault_text : VlogFault → List ℕ
module_fault_text module_faults.TooLong = codes "limit: text"
module_fault_text (module_faults.Syntax place) = codes "byte " ++ (decimal place ++ codes ": syntax")
module_fault_text (module_faults.Twice name) = codes "declared twice: " ++ name
module_fault_text (module_faults.Port name) = codes "bad port: " ++ name
module_fault_text (module_faults.Undeclared name) = codes "undeclared: " ++ name
module_fault_text (module_faults.TwoDrivers name) = codes "two drivers: " ++ name
module_fault_text (module_faults.NoDriver name) = codes "no driver: " ++ name
module_fault_text (module_faults.Loop names) = codes "loop: " ++ joined_names names.items

-- a fault of a text, by its language
abbrev pub text_fault_text : TextFault → List ℕ
text_fault_text (texts.Blif fault) = blif_fault_text fault
text_fault_text (texts.C fault) = program_fault_text fault
text_fault_text (texts.Guard fault) = guarded_fault_text fault
text_fault_text (texts.Verilog fault) = module_fault_text fault

-- an instant that is not constructive, and the wires that stay unknown in it
abbrev pub unknown_text : ℕ → List WireName → List ℕ
unknown_text instant wires =
    in_instant instant (codes ": not constructive: " ++ joined_texts (codes ", ") wires)

-- what is said of an outcome
abbrev pub said_of : Subject → Outcome → List ℕ
said_of x Done = []
said_of x Usage = codes "usage, see cec --help"
said_of x (FileFault file) = codes "cannot read " ++ file_name x file
said_of x (Static fault) = fault_text x.source x.main fault
said_of x (Cyclic cycle) = codes "cyclic: " ++ cycle_text (map wire_name_of cycle.wires.items)
said_of x (Trace fault) = trace_text fault
said_of x (BadText fault) = text_fault_text fault
said_of x (Limit quantity) = codes "limit: " ++ limit_word quantity
said_of x WriteFault = codes "cannot write"
said_of x NoMemory = codes "out of memory"
said_of x (NotConstructive wires) = unknown_text wires.instant (map wire_name_of wires.wires.items)

-- the line of an outcome; none for Done
abbrev pub line_of : Subject → Outcome → List ℕ
line_of x Done = []
line_of x others = codes "cec: " ++ (said_of x others ++ codes "\n")

-- the subject of a command on a source: where no main module is named, no line names one; the source is the one that
-- the file holds
abbrev pub IsSourceSubject : Job → Content → Subject → Type 0
IsSourceSubject job content x = (x.name ≡ job.name) × (x.main ≡ unwrap_or job.main [])
    × IsHeld content job.name x.source

abbrev pub IsSubjectOf : Option Request → Content → Subject → Type 0
IsSubjectOf (Some (Make task job)) content x = IsSourceSubject job content x
IsSubjectOf (Some (Run via job trace)) content x = IsSourceSubject job content x × (x.trace ≡ trace)
IsSubjectOf (Some (RunTri job trace)) content x = IsSourceSubject job content x × (x.trace ≡ trace)
IsSubjectOf (Some (Exec via text trace)) content x = (x.name ≡ text) × (x.trace ≡ trace)
IsSubjectOf (Some (Load start branches instants)) content x = (x.main ≡ []) × (x.source ≡ source_text start branches)
IsSubjectOf others content x = ⊤

-- What `err` gained: the whole line, or a prefix of it where its count of faults rose.
pub record GainsErr (asked : Option Request) (content : Content) (outcome : Outcome) (old new : Option (List ℕ))
    (before now : ℕ) : Type 0 where
  pub subject : Subject
  pub is_subject : IsSubjectOf asked content subject
  pub gains : GainsLine old new before now (line_of subject outcome)
