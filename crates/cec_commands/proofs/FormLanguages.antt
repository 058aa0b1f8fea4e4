-- The languages of the forms of texts.
use Rattle.std.proofs.Common.{◌≡◌, ℕ, List, Result, refl}
use Rattle.base_types.specs.SinkChanges.{SinkChange}
use Rattle.net_ir.specs.Netlists.{Netlist}
use Rattle.run_trace_io.specs.Traces.{Reading}
use Rattle.run_over_traces.specs.Languages.{ShowsNet}
use Rattle.run_over_traces.specs.Running.{RunsTrace}
use Rattle.run_over_traces.specs.declared.running.RunFault.{RunFault}
use Rattle.cec_compile.specs.declared.forms.TextForm.{TextForm}
use Rattle.cec_compile.specs.declared.forms.TextForm.TheVariants as forms
use Rattle.cec_compile.proofs.Exports.{IsBlifText, IsCText, IsVerilogText, blif_answers, encoded_answers, c_answers, verilog_answers}
use Rattle.cec_words.specs.declared.asked.Via.{Via}
use Rattle.cec_words.specs.declared.asked.Via.TheVariants as vias
use Rattle.std.specs.Prelude.{false}
use Rattle.cec_commands.specs.ExecTexts.{TextHasFault, IsRunnable, RunsBy}
use Rattle.cec_commands.specs.Jobs.{form_by}
use Rattle.cec_commands.specs.NetTexts.{IsWritten, RunsText}
use Rattle.cec_commands.specs.Targets.{WritesForm, RunsForm, language_of}

-- ---- a language that writes a form

pub blif_writes : WritesForm IsBlifText forms.Blif
blif_writes = record { answers = blif_answers; written = λ text net w. record { spelled = w.spelled; means = w.means } }

pub encoded_writes : WritesForm IsBlifText forms.EncodedBlif
encoded_writes = record { answers = encoded_answers; written = λ text net w. record { spelled = w.spelled; means = w.means } }

pub c_writes : WritesForm IsCText forms.C
c_writes = record { answers = c_answers; written = λ text net w. record { spelled = w.spelled; means = w.means } }

pub verilog_writes : WritesForm IsVerilogText forms.Verilog
verilog_writes = record { answers = verilog_answers; written = λ text net w. record { spelled = w.spelled; means = w.means } }

-- ---- a language that runs a form

runs_as : (form : TextForm) → (form ≡ forms.Guarded → ⊥)
    → ((text : List ℕ) (names : List (List ℕ)) (net : Netlist) (trace : Reading) (s : SinkChange) (result : Result (Unit {0}) RunFault)
    → RunsTrace (ShowsNet names net) trace s result → RunsText form text names net trace s result)
    → RunsForm (IsRunnable (language_of form)) (TextHasFault (language_of form)) (RunsBy (language_of form)) (IsWritten form) form
runs_as form plain runs = record {
  plain = plain;
  runnable = λ bytes is. is;
  faulty = λ bytes fault is. is;
  runs = λ text trace s result is. is;
  means = λ text net is. is;
  runs_text = runs;
}

pub blif_runs : RunsForm (IsRunnable vias.Blif) (TextHasFault vias.Blif) (RunsBy vias.Blif) (IsWritten forms.Blif) forms.Blif
blif_runs = runs_as forms.Blif (λ e. cc) (λ text names net trace s result is. is)

pub encoded_runs : RunsForm (IsRunnable vias.Blif) (TextHasFault vias.Blif) (RunsBy vias.Blif) (IsWritten forms.EncodedBlif) forms.EncodedBlif
encoded_runs = runs_as forms.EncodedBlif (λ e. cc) (λ text names net trace s result is. is)

pub c_runs : RunsForm (IsRunnable vias.C) (TextHasFault vias.C) (RunsBy vias.C) (IsWritten forms.C) forms.C
c_runs = runs_as forms.C (λ e. cc) (λ text names net trace s result is. is)

pub verilog_runs : RunsForm (IsRunnable vias.Verilog) (TextHasFault vias.Verilog) (RunsBy vias.Verilog) (IsWritten forms.Verilog) forms.Verilog
verilog_runs = runs_as forms.Verilog (λ e. cc) (λ text names net trace s result is. is)

-- ---- the form of texts of a language

pub form_language : (via : Via) → language_of (form_by via false) ≡ via
form_language vias.Blif = refl
form_language vias.C = refl
form_language vias.Guard = refl
form_language vias.Verilog = refl
