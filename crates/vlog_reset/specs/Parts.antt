-- Inner: the parts of a net's text, section by section, and the text from a place on.
use Rattle.std.specs.Prelude.{ℕ, ◌+◌, ◌/◌, ◌%◌, List, [], ◌∷◌, ◌++◌, map, drop, codes, slice_index_or}
use Rattle.std.specs.List.{flat_map}
use Rattle.net_ir.specs.Netlists.{Netlist}
use Rattle.net_ir.specs.Numbered.{numbered}
use Rattle.net_writer.specs.Parts.{joined}
use Rattle.vlog_text.specs.Names.{paused_name}
use Rattle.vlog_text.specs.Written.{clock_name}
use Rattle.vlog_reset.specs.Grammar.{initial_ones, where_some}
use Rattle.vlog_reset.specs.Options.{ModuleOptions}
use Rattle.vlog_reset.specs.Texts.{first_line, last_line}
use Rattle.vlog_reset.specs.Written.{module_name, input_name, output_name, state_word, gate_word, net_word}
use Rattle.vlog_reset.specs.Written.{gate_assign, output_assign, paused_assign, comments, lint_lines, module_head}
use Rattle.vlog_reset.specs.Written.{input_port, output_port, ports_end, reg_line, wire_declaration, initial_line}
use Rattle.vlog_reset.specs.Written.{assign_line, clock_lines, first_value_line, else_line, next_line, end_line}
use Rattle.vlog_reset.specs.declared.parts.ResetSection.{ResetSection}
use Rattle.vlog_reset.specs.declared.parts.ResetSection.TheVariants.{Head, Inputs, Outputs, PortsEnd, Registers}
use Rattle.vlog_reset.specs.declared.parts.ResetSection.TheVariants.{Wires, Initials, Gates, OutputAssigns, ResetHead}
use Rattle.vlog_reset.specs.declared.parts.ResetSection.TheVariants.{FirstValues, Else, Nexts, LastLines}
use Rattle.vlog_reset.specs.declared.parts.TheConstants.{SECTIONS}

-- all before the inputs
abbrev pub front_text : ModuleOptions → Netlist → List ℕ
front_text o net =
    first_line ++ (comments (module_name o net) clock_name o.reset o.manner
    ++ (lint_lines ++ module_head (module_name o net) clock_name o.reset))

-- the assignment of `paused`, and how the registers' part begins
abbrev pub reset_head : ModuleOptions → Netlist → List ℕ
reset_head o net =
    assign_line (paused_assign o net) ++ where_some net.latches (clock_lines o.manner clock_name o.reset)

abbrev pub end_text : Netlist → List ℕ
end_text net = where_some net.latches end_line ++ (codes "endmodule\n" ++ last_line)

-- the parts of a section
abbrev pub parts_in : ModuleOptions → Netlist → ResetSection → List (List ℕ)
parts_in o net Head = front_text o net ∷ []
parts_in o net Inputs = map (λ name. input_port (input_name o name)) net.inputs
parts_in o net Outputs = map (λ output. output_port (output_name o output)) net.outputs
parts_in o net PortsEnd = (output_port paused_name ++ ports_end) ∷ []
parts_in o net Registers = numbered (λ j latch. reg_line (state_word j)) 0 net.latches
parts_in o net Wires = numbered (λ k gate. wire_declaration (gate_word k)) 0 net.gates
parts_in o net Initials =
    numbered (λ j latch. initial_line (state_word j) latch.init) 0 (initial_ones o.manner net.latches)
parts_in o net Gates = numbered (λ k gate. assign_line (gate_assign o net k gate)) 0 net.gates
parts_in o net OutputAssigns = map (λ output. assign_line (output_assign o net output)) net.outputs
parts_in o net ResetHead = reset_head o net ∷ []
parts_in o net FirstValues = numbered (λ j latch. first_value_line (state_word j) latch.init) 0 net.latches
parts_in o net Else = where_some net.latches else_line ∷ []
parts_in o net Nexts = numbered (λ j latch. next_line (state_word j) (net_word o net latch.from.0)) 0 net.latches
parts_in o net LastLines = end_text net ∷ []

-- ---- the text from a place on

-- from the part with this number of the section with this number on
abbrev pub text_at : List (List (List ℕ)) → ℕ → ℕ → List ℕ
text_at sections n k =
    joined (drop k (slice_index_or sections n [])) ++ joined (flat_map (λ parts. parts) (drop (n + 1) sections))

abbrev pub all_parts : ModuleOptions → Netlist → List (List (List ℕ))
all_parts o net = map (parts_in o net) SECTIONS

-- A place has the number of a section and that of one of its parts, as digits to this base.
abbrev pub text_from : ℕ → ModuleOptions → Netlist → ℕ → List ℕ
text_from base o net place = text_at (all_parts o net) (place / base) (place % base)
