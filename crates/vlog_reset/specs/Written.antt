-- To believe: the module that stands for a net, its text, and what the text means. The module has the name of the net,
-- or the name that is asked for. Inputs and outputs have the names of their signals, or these after `i_` and `o_`. The
-- clock is `clk`, and the output `paused` is whether the program is still running. Latch J of the net is the register
-- `stateJ`, and gate K is the wire `gateK`.
use Rattle.std.specs.Prelude.{◌≡◌, ℕ, Bool, true, false, List, [], ◌∷◌, ◌++◌, length, map, flat_map, codes, decimal}
use Rattle.std.specs.Prelude.{slice_index_or, unwrap_or, if◌then◌else◌}
use Rattle.std.specs.List.{AllByRecursion}
use Rattle.net_ir.specs.declared.netlist.Gate.{Gate}
use Rattle.net_ir.specs.declared.netlist.Latch.{Latch}
use Rattle.net_ir.specs.declared.netlist.NetOut.{NetOut}
use Rattle.net_ir.specs.Netlists.{Netlist}
use Rattle.net_ir.specs.Numbered.{numbered}
use Rattle.net_ir.specs.Runs.{net_run}
use Rattle.net_expressions.specs.Operators.{op_expr}
use Rattle.net_expressions.specs.Trees.{Expr}
use Rattle.vlog_text.specs.Machine.{driven_names, given_inputs}
use Rattle.vlog_text.specs.Names.{paused_name}
use Rattle.vlog_text.specs.Written.{assigns_name, bit_text, clock_name, expr_text, line_end}
use Rattle.vlog_reset.specs.Grammar.{edge_word, initial_ones, where_some}
use Rattle.vlog_reset.specs.Machine.{Begins, HasWidth, IsEdgeRun, ClockStep, step_items, seen_by}
use Rattle.vlog_reset.specs.Options.{ModuleOptions}
use Rattle.vlog_reset.specs.Texts.{Describes, first_line, last_line}
use Rattle.vlog_reset.specs.Trees.{Assign, Manner, Register, ResetModule, VerilogModule, clock_of}

-- ---- names

abbrev pub module_name : ModuleOptions → Netlist → List ℕ
module_name o net = unwrap_or o.name net.name

abbrev pub input_name : ModuleOptions → List ℕ → List ℕ
input_name o name = if o.has_prefixes then codes "i_" ++ name else name

abbrev pub outgoing_name : ModuleOptions → List ℕ → List ℕ
outgoing_name o name = if o.has_prefixes then codes "o_" ++ name else name

abbrev pub output_name : ModuleOptions → NetOut → List ℕ
output_name o output = outgoing_name o output.name

abbrev pub state_word : ℕ → List ℕ
state_word j = codes "state" ++ decimal j

abbrev pub gate_word : ℕ → List ℕ
gate_word k = codes "gate" ++ decimal k

abbrev pub input_words : ModuleOptions → Netlist → List (List ℕ)
input_words o net = map (input_name o) net.inputs

abbrev pub output_words : ModuleOptions → Netlist → List (List ℕ)
output_words o net = map (output_name o) net.outputs ++ paused_name ∷ []

abbrev pub state_words : Netlist → List (List ℕ)
state_words net = numbered (λ j latch. state_word j) 0 net.latches

abbrev pub gate_words : Netlist → List (List ℕ)
gate_words net = numbered (λ k gate. gate_word k) 0 net.gates

-- the names of all nets: the inputs come first, then the latches and the gates
abbrev pub net_words : ModuleOptions → Netlist → List (List ℕ)
net_words o net = input_words o net ++ (state_words net ++ gate_words net)

abbrev pub net_word : ModuleOptions → Netlist → ℕ → List ℕ
net_word o net n = slice_index_or (net_words o net) n []

-- ---- the module

abbrev pub net_register : ModuleOptions → Netlist → ℕ → Latch → Register
net_register o net j latch = record { name = state_word j; init = latch.init; from = net_word o net latch.from.0 }

abbrev pub gate_assign : ModuleOptions → Netlist → ℕ → Gate → Assign Expr
gate_assign o net k gate = record { target = gate_word k; value = op_expr (net_word o net) gate.op }

abbrev pub output_assign : ModuleOptions → Netlist → NetOut → Assign Expr
output_assign o net output = assigns_name (output_name o output) (net_word o net output.net.0)

abbrev pub paused_assign : ModuleOptions → Netlist → Assign Expr
paused_assign o net = assigns_name paused_name (net_word o net net.paused)

abbrev pub net_assigns : ModuleOptions → Netlist → List (Assign Expr)
net_assigns o net =
    numbered (gate_assign o net) 0 net.gates ++ (map (output_assign o net) net.outputs ++ paused_assign o net ∷ [])

abbrev pub net_design : ModuleOptions → Netlist → VerilogModule
net_design o net = record {
  name = module_name o net;
  inputs = clock_name ∷ input_words o net;
  outputs = output_words o net;
  registers = numbered (net_register o net) 0 net.latches;
  wires = gate_words net;
  assigns = net_assigns o net;
}

abbrev pub reset_module : ModuleOptions → Netlist → ResetModule
reset_module o net = record { design = net_design o net; reset = o.reset; manner = o.manner }

-- ---- the text

abbrev pub name_tail : List ℕ
name_tail = codes ", by cec-opt 0.1.0: cec-opt verilog --reset. An instant is a rising edge of "

abbrev pub level_word : Bool → List ℕ
level_word true = codes "low"
level_word false = codes "high"

abbrev pub time_words : Bool → List ℕ
time_words true = codes ", at once"
time_words false = codes " at such an edge"

abbrev pub reset_tail : List ℕ
reset_tail = codes "; paused is whether the program is still running.\n"

-- Two lines about the text. Then no tool is to warn of a signal that nothing reads, or whose name is a word of C++.
abbrev pub comments : List ℕ → List ℕ → List ℕ → Manner → List ℕ
comments name clock reset manner =
    codes "// " ++ (name ++ (name_tail ++ (clock ++ (codes ".\n// " ++ (reset ++ (codes " resets it while it is "
    ++ (level_word manner.is_active_low ++ (time_words manner.is_asynchronous ++ reset_tail))))))))

abbrev pub lint_lines : List ℕ
lint_lines = codes "// verilator lint_off UNUSED\n// verilator lint_off SYMRSVDWORD\n"

abbrev pub module_head : List ℕ → List ℕ → List ℕ → List ℕ
module_head name clock reset =
    codes "module " ++ (name ++ (codes " (\n    input wire " ++ (clock ++ (codes ",\n    input wire " ++ reset))))

abbrev pub input_port : List ℕ → List ℕ
input_port name = codes ",\n    input wire " ++ name

abbrev pub output_port : List ℕ → List ℕ
output_port name = codes ",\n    output wire " ++ name

abbrev pub ports_end : List ℕ
ports_end = codes "\n);\n"

abbrev pub reg_line : List ℕ → List ℕ
reg_line name = codes "    reg " ++ (name ++ line_end)

abbrev pub wire_declaration : List ℕ → List ℕ
wire_declaration name = codes "    wire " ++ (name ++ line_end)

abbrev pub initial_line : List ℕ → Bool → List ℕ
initial_line name value = codes "    initial " ++ (name ++ (codes " = " ++ (bit_text value ++ line_end)))

abbrev pub assign_line : Assign Expr → List ℕ
assign_line a = codes "    assign " ++ (a.target ++ (codes " = " ++ (expr_text a.value ++ line_end)))

abbrev pub edge_text : Manner → List ℕ → List ℕ
edge_text manner reset =
    if manner.is_asynchronous then codes " or " ++ (edge_word manner.is_active_low ++ (codes " " ++ reset)) else []

abbrev pub test_text : Manner → List ℕ → List ℕ
test_text manner reset = if manner.is_active_low then codes "!" ++ reset else reset

abbrev pub clock_lines : Manner → List ℕ → List ℕ → List ℕ
clock_lines manner clock reset =
    codes "    always @(posedge " ++ (clock ++ (edge_text manner reset ++ (codes ")\n        if ("
    ++ (test_text manner reset ++ codes ") begin\n"))))

abbrev pub first_value_line : List ℕ → Bool → List ℕ
first_value_line name value = codes "            " ++ (name ++ (codes " <= " ++ (bit_text value ++ line_end)))

abbrev pub else_line : List ℕ
else_line = codes "        end else begin\n"

abbrev pub next_line : List ℕ → List ℕ → List ℕ
next_line name from = codes "            " ++ (name ++ (codes " <= " ++ (from ++ line_end)))

abbrev pub end_line : List ℕ
end_line = codes "        end\n"

-- what is between the directives
abbrev pub body_text : ResetModule → List ℕ
body_text m =
    let registers = m.design.registers in
    comments m.design.name (clock_of m) m.reset m.manner ++ (lint_lines
    ++ (module_head m.design.name (clock_of m) m.reset ++ (flat_map input_port (given_inputs m.design)
    ++ (flat_map output_port m.design.outputs ++ (ports_end ++ (flat_map (λ r. reg_line r.name) registers
    ++ (flat_map wire_declaration m.design.wires
    ++ (flat_map (λ r. initial_line r.name r.init) (initial_ones m.manner registers)
    ++ (flat_map assign_line m.design.assigns ++ (where_some registers (clock_lines m.manner (clock_of m) m.reset)
    ++ (flat_map (λ r. first_value_line r.name r.init) registers ++ (where_some registers else_line
    ++ (flat_map (λ r. next_line r.name r.from) registers
    ++ (where_some registers end_line ++ codes "endmodule\n"))))))))))))))

abbrev pub module_text : ResetModule → List ℕ
module_text m = first_line ++ (body_text m ++ last_line)

-- the Verilog text of a net with a reset
abbrev pub written : ModuleOptions → Netlist → List ℕ
written o net = module_text (reset_module o net)

-- ---- what the text means

-- A text means a net: it describes a module with the names that are asked for, and with the net's inputs, outputs and
-- latches. Take any steps whose edges have one value for each input, and any values of the registers to begin with.
pub record Means (text : List ℕ) (net : Netlist) (o : ModuleOptions) : Type 0 where
  pub verilog : ResetModule
  pub describes : Describes text verilog
  pub name : verilog.design.name ≡ module_name o net
  pub clock : clock_of verilog ≡ clock_name
  pub reset : verilog.reset ≡ o.reset
  pub manner : verilog.manner ≡ o.manner
  pub inputs : given_inputs verilog.design ≡ input_words o net
  pub outputs : verilog.design.outputs ≡ output_words o net
  pub registers : verilog.design.registers ≡ numbered (net_register o net) 0 net.latches
  -- there is a run
  pub runs : (registers : List Bool) (steps : List ClockStep) → length registers ≡ length net.latches
      → AllByRecursion (HasWidth (length net.inputs)) steps
      → (vs : List (List ℕ → Bool)) × IsEdgeRun verilog registers steps vs
  -- two runs that begin with a reset or at power-up agree on every name that is driven, at each edge without a reset
  pub one_run : (registers others : List Bool) (steps : List ClockStep) (us vs : List (List ℕ → Bool))
      → Begins verilog registers steps → Begins verilog others steps
      → IsEdgeRun verilog registers steps us → IsEdgeRun verilog others steps vs
      → seen_by (λ u. map u (driven_names verilog.design)) o.manner steps us
      ≡ seen_by (λ v. map v (driven_names verilog.design)) o.manner steps vs
  -- and at each such edge the outputs have the net's values, and the last one that of `paused`
  pub shows : (registers : List Bool) (steps : List ClockStep) (vs : List (List ℕ → Bool))
      → Begins verilog registers steps → IsEdgeRun verilog registers steps vs
      → seen_by (λ v. map v verilog.design.outputs) o.manner steps vs
      ≡ map (λ s. s.outputs ++ s.paused ∷ []) (net_run net (step_items o.manner steps))
