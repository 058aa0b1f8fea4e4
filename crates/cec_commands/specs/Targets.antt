-- Inner: what the commands need of the language that texts of a form are in.
use Rattle.std.specs.Prelude.{◌≡◌, ℕ, List, Option, Result}
use Rattle.base_types.specs.Items.{Item}
use Rattle.base_types.specs.SinkChanges.{SinkChange}
use Rattle.net_ir.specs.Netlists.{Netlist}
use Rattle.run_trace_io.specs.Traces.{Reading}
use Rattle.run_over_traces.specs.Languages.{IsOfProgram, ShowsNet}
use Rattle.run_over_traces.specs.Machines.{ShownAnswer}
use Rattle.run_over_traces.specs.Running.{RunsTrace}
use Rattle.run_over_traces.specs.declared.running.RunFault.{RunFault}
use Rattle.cec_compile.specs.MadeNets.{IsWrittenOf}
use Rattle.cec_compile.specs.SourceTexts.{IsSourceText}
use Rattle.cec_compile.specs.declared.forms.TextForm.{TextForm}
use Rattle.cec_compile.specs.declared.forms.TextForm.TheVariants as forms
use Rattle.cec_words.specs.declared.asked.Via.{Via}
use Rattle.cec_words.specs.declared.asked.Via.TheVariants as vias
use Rattle.cec_commands.specs.ExecTexts.{TextHasFault, IsRunnable, RunsBy}
use Rattle.cec_commands.specs.NetTexts.{IsWritten, RunsText}
use Rattle.cec_commands.specs.declared.text_faults.TextFault.{TextFault}

-- the language that texts of a form are in
abbrev pub language_of : TextForm → Via
language_of forms.Blif = vias.Blif
language_of forms.EncodedBlif = vias.Blif
language_of forms.C = vias.C
language_of forms.Guarded = vias.Guard
language_of forms.Verilog = vias.Verilog

-- what is written so of a netlist is a text of the form
pub record WritesForm (Writes : List ℕ → Netlist → Type 0) (form : TextForm) : Type 0 where
  pub answers : (bytes : List ℕ) (main : Option (List ℕ)) (text : List ℕ) → IsWrittenOf form Writes bytes main text
      → IsSourceText form main bytes text
  pub written : (text : List ℕ) (net : Netlist) → Writes text net → IsWritten form text net

-- texts of the form, which are not guarded, can be run, have their faults, are run and mean a net as is said so
pub record RunsForm (CanRun : List ℕ → Type 0) (Faulty : List ℕ → TextFault → Type 0)
    (Runs : (text trace : List ℕ) → SinkChange → Result (Unit {0}) RunFault → Type 0)
    (Means : List ℕ → Netlist → Type 0) (form : TextForm) : Type 0 where
  pub plain : form ≡ forms.Guarded → ⊥
  pub runnable : (bytes : List ℕ) → CanRun bytes → IsRunnable (language_of form) bytes
  pub faulty : (bytes : List ℕ) (fault : TextFault) → Faulty bytes fault → TextHasFault (language_of form) bytes fault
  pub runs : (text trace : List ℕ) (s : SinkChange) (result : Result (Unit {0}) RunFault) → Runs text trace s result
      → RunsBy (language_of form) text trace s result
  pub means : (text : List ℕ) (net : Netlist) → IsWritten form text net → Means text net
  pub runs_text : (text : List ℕ) (names : List (List ℕ)) (net : Netlist) (trace : Reading) (s : SinkChange)
      (result : Result (Unit {0}) RunFault) → RunsTrace (ShowsNet names net) trace s result
      → RunsText form text names net trace s result

-- a machine is that of a text in a language, and shows what its program does
pub record IsReadIn {P S : Type 0} (Reads : List ℕ → P → Type 0) (plain : S → P)
    (Shows : S → List Item → List ShownAnswer → Type 0) (ProgramShows : P → List Item → List ShownAnswer → Type 0)
    (s : S) (text : List ℕ) : Type 0 where
  pub reads : Reads text (plain s)
  pub shows : IsOfProgram Shows ProgramShows s (plain s)
