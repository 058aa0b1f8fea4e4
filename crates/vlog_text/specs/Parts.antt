-- Inner: the parts of a net's text, section by section.
use Rattle.std.specs.Prelude.{ℕ, List, [], ◌∷◌, ◌++◌, map}
use Rattle.net_ir.specs.Netlists.{Netlist}
use Rattle.net_ir.specs.Numbered.{numbered}
use Rattle.net_expressions.specs.NetNames.{gate_name, state_name}
use Rattle.vlog_text.specs.Trees.{Input, Output, Reg, Wire}
use Rattle.vlog_text.specs.Names.{paused_name}
use Rattle.vlog_text.specs.Written.{module_name, clock_name, input_name, output_name, declares, gate_assign}
use Rattle.vlog_text.specs.Written.{output_assign, paused_assign, latch_initial, latch_next, next_port, head_front}
use Rattle.vlog_text.specs.Written.{head_end, declaration_line, initial_line, assign_line, clock_line, next_line}
use Rattle.vlog_text.specs.Written.{last_lines}
use Rattle.vlog_text.specs.declared.parts.VerilogSection.{VerilogSection}
use Rattle.vlog_text.specs.declared.parts.VerilogSection.TheVariants.{ClockPort, InputPorts, OutputPorts, HeadEnd}
use Rattle.vlog_text.specs.declared.parts.VerilogSection.TheVariants.{Inputs}
use Rattle.vlog_text.specs.declared.parts.VerilogSection.TheVariants.{Outputs, Paused, Regs, Wires, Initials}
use Rattle.vlog_text.specs.declared.parts.VerilogSection.TheVariants.{GateAssigns}
use Rattle.vlog_text.specs.declared.parts.VerilogSection.TheVariants.{OutputAssigns, PausedAssign, Nexts, LastLines}

-- the parts of a section
abbrev pub parts_in : Netlist → VerilogSection → List (List ℕ)
parts_in net ClockPort = (head_front (module_name net.name) ++ clock_name) ∷ []
parts_in net InputPorts = map (λ name. next_port (input_name name)) net.inputs
parts_in net OutputPorts = map (λ o. next_port (output_name o)) net.outputs
parts_in net HeadEnd =
    (next_port paused_name ++ (head_end ++ declaration_line (declares Input clock_name))) ∷ []
parts_in net Inputs = map (λ name. declaration_line (declares Input (input_name name))) net.inputs
parts_in net Outputs = map (λ o. declaration_line (declares Output (output_name o))) net.outputs
parts_in net Paused = declaration_line (declares Output paused_name) ∷ []
parts_in net Regs = numbered (λ j latch. declaration_line (declares Reg (state_name j))) 0 net.latches
parts_in net Wires = numbered (λ k gate. declaration_line (declares Wire (gate_name k gate.wire))) 0 net.gates
parts_in net Initials = numbered (λ j latch. initial_line (latch_initial j latch)) 0 net.latches
parts_in net GateAssigns = numbered (λ k gate. assign_line (gate_assign net k gate)) 0 net.gates
parts_in net OutputAssigns = map (λ o. assign_line (output_assign net o)) net.outputs
parts_in net PausedAssign = (assign_line (paused_assign net) ++ clock_line clock_name) ∷ []
parts_in net Nexts = numbered (λ j latch. next_line (latch_next net j latch)) 0 net.latches
parts_in net LastLines = last_lines ∷ []
