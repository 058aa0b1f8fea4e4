-- Inner: the text of each form that is written of a net, that it means the net, and that it can be read.
use Rattle.std.specs.Prelude.{ℕ, ◌≤◌, List, length, Result}
use Rattle.base_types.specs.declared.bounds.TheConstants.Limits.{TEXT_BYTES}
use Rattle.blif_text.specs.Written as blif_texts
use Rattle.csub_text.specs.Written as c_texts
use Rattle.net_ir.specs.Netlists.{Netlist}
use Rattle.base_types.specs.SinkChanges.{SinkChange}
use Rattle.csub_guard_run.specs.CountedRuns.{CountsNet}
use Rattle.csub_guard_run.specs.Texts as guarded
use Rattle.run_trace_io.specs.Traces.{Reading}
use Rattle.run_over_traces.specs.Languages.{ShowsNet}
use Rattle.run_over_traces.specs.Running.{RunsTrace}
use Rattle.run_over_traces.specs.declared.running.RunFault.{RunFault}
use Rattle.blif_run.specs.Texts as circuits
use Rattle.csub_run.specs.Texts as programs
use Rattle.vlog_run.specs.Texts as modules
use Rattle.cec_compile.specs.declared.forms.TextForm.{TextForm}
use Rattle.cec_compile.specs.declared.forms.TextForm.TheVariants.{Blif, EncodedBlif, C, Guarded, Verilog}

abbrev pub IsWritten : TextForm → List ℕ → Netlist → Type 0
IsWritten Blif text net = circuits.IsWritten text net
IsWritten EncodedBlif text net = circuits.IsWritten text net
IsWritten C text net = programs.IsWritten text net
IsWritten Guarded text net = guarded.Means text net
IsWritten Verilog text net = modules.IsWritten text net

-- how a run over a trace ends of the text of a form that is written of a net: what the net shows is written, and after
-- it the line of the count, if the text is guarded
abbrev pub RunsText : TextForm → List ℕ → List (List ℕ) → Netlist → Reading → SinkChange
    → Result (Unit {0}) RunFault → Type 0
RunsText Guarded text names net trace s result = CountsNet text names net trace s result
RunsText others text names net trace s result = RunsTrace (ShowsNet names net) trace s result

-- the BLIF text and the C text of a net are short enough to be read
pub record TextsFit (net : Netlist) : Type 0 where
  pub circuit : length (blif_texts.written net) ≤ TEXT_BYTES
  pub program : length (c_texts.written net) ≤ TEXT_BYTES
