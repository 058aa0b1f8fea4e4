-- Inner: the text of a form that is written of a netlist, and that it means it.
use Rattle.std.specs.Prelude.{ℕ, List}
use Rattle.net_ir.specs.Netlists.{Netlist}
use Rattle.cec_text_io.specs.NetWriting.{IsWrittenIn}
use Rattle.blif_text.specs.Written as blif_texts
use Rattle.csub_text.specs.Written as c_texts
use Rattle.vlog_text.specs.Written as verilog_texts
use Rattle.cec_opt_commands.specs.declared.words.Form.{Form}
use Rattle.cec_opt_commands.specs.declared.words.Form.TheVariants.{Blif, C, Verilog}

abbrev pub IsWritten : Form → List ℕ → Netlist → Type 0
IsWritten Blif text net = IsWrittenIn blif_texts.written blif_texts.Means text net
IsWritten C text net = IsWrittenIn c_texts.written c_texts.Means text net
IsWritten Verilog text net = IsWrittenIn verilog_texts.written verilog_texts.Means text net
