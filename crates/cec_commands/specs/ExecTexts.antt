-- To believe: texts that `exec` runs, or refuses, by the form that the words name.
use Rattle.std.specs.Prelude.{◌≡◌, ℕ, ◌≤◌, List, length, Result}
use Rattle.base_types.specs.declared.bounds.TheConstants.Limits.{TEXT_BYTES}
use Rattle.base_types.specs.SinkChanges.{SinkChange}
use Rattle.blif_run.specs.CircuitAnswers.{listed_names, circuit_shows}
use Rattle.blif_run.specs.Texts as circuits
use Rattle.blif_run.specs.Texts.{ReadsCircuit}
use Rattle.cec_words.specs.declared.asked.Via.{Via}
use Rattle.cec_words.specs.declared.asked.Via.TheVariants.{Blif, C, Guard, Verilog}
use Rattle.csub_read.specs.Faults.{ReadsAs}
use Rattle.csub_run.specs.ProgramAnswers.{bare_inputs, bare_outputs, program_shows}
use Rattle.csub_run.specs.Texts as programs
use Rattle.csub_guard_read.specs.Faults as guarded_reads
use Rattle.csub_guard_run.specs.CountedRuns.{CountsIn}
use Rattle.csub_guard_run.specs.Texts as guarded_texts
use Rattle.run_over_traces.specs.declared.running.RunFault.{RunFault}
use Rattle.run_over_traces.specs.Languages.{RunsIn}
use Rattle.vlog_run.specs.ModuleAnswers as modules
use Rattle.vlog_run.specs.Texts as module_texts
use Rattle.cec_commands.specs.declared.text_faults.TextFault.{TextFault}
use Rattle.cec_commands.specs.declared.text_faults.TextFault.TheVariants as texts

-- the bytes have a reading in a language, and are no more than can be read
pub record IsTextIn {P : Type 0} (reads : List ℕ → P → Type 0) (bytes : List ℕ) : Type 0 where
  pub program : P
  pub within : length bytes ≤ TEXT_BYTES
  pub read : reads bytes program

-- the first fault of a text is one of its language, which is reported so
abbrev pub IsFaultIn : {F : Type 0} → (List ℕ → F → Type 0) → (F → TextFault → Type 0) → List ℕ → TextFault → Type 0
IsFaultIn {F} faulty told bytes fault = (own : F) × faulty bytes own × told own fault

-- a text that can be run
abbrev pub IsRunnable : Via → List ℕ → Type 0
IsRunnable Blif bytes = IsTextIn ReadsCircuit bytes
IsRunnable C bytes = IsTextIn ReadsAs bytes
IsRunnable Guard bytes = IsTextIn guarded_reads.ReadsAs bytes
IsRunnable Verilog bytes = IsTextIn module_texts.ReadsModule bytes

-- the first fault of a text
abbrev pub TextHasFault : Via → List ℕ → TextFault → Type 0
TextHasFault Blif bytes fault = IsFaultIn circuits.IsTextFault (λ own told. told ≡ texts.Blif own) bytes fault
TextHasFault C bytes fault = IsFaultIn programs.IsTextFault (λ own told. told ≡ texts.C own) bytes fault
TextHasFault Guard bytes fault = IsFaultIn guarded_texts.IsTextFault (λ own told. told ≡ texts.Guard own) bytes fault
TextHasFault Verilog bytes fault = IsFaultIn module_texts.IsTextFault (λ own told. told ≡ texts.Verilog own) bytes fault

-- a text is run over a trace, by its own meaning alone; after the lines of a guarded text stands that of its count
abbrev pub RunsBy : Via → (bytes trace : List ℕ) → SinkChange → Result (Unit {0}) RunFault → Type 0
RunsBy Blif bytes trace s result =
    RunsIn ReadsCircuit (λ c. c.inputs) (λ c. listed_names c.outputs) circuit_shows bytes trace s result
RunsBy C bytes trace s result = RunsIn ReadsAs bare_inputs bare_outputs program_shows bytes trace s result
RunsBy Guard bytes trace s result = CountsIn bytes trace s result
RunsBy Verilog bytes trace s result =
    RunsIn module_texts.ReadsModule modules.bare_inputs modules.bare_outputs modules.module_shows bytes trace s result
