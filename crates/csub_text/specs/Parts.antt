-- Inner: the parts of a net's text, section by section.
use Rattle.std.specs.Prelude.{ℕ, List, [], ◌∷◌, map, flat_map}
use Rattle.net_ir.specs.Netlists.{Netlist}
use Rattle.net_ir.specs.Numbered.{numbered}
use Rattle.csub_text.specs.Trees.{Name}
use Rattle.csub_text.specs.Written.{input_name, gate_name, next_name, answer_name, input_variable}
use Rattle.csub_text.specs.Written.{output_variable, net_state, input_assign, gate_assign, next_assign, output_assign}
use Rattle.csub_text.specs.Written.{answer_assign, state_assign, state_line, declaration, assign_line, head_line}
use Rattle.csub_text.specs.Written.{last_lines}
use Rattle.csub_text.specs.declared.parts.CSection.{CSection}
use Rattle.csub_text.specs.declared.parts.CSection.TheVariants.{States, Inputs, Outputs, Head, InputLocals, GateLocals}
use Rattle.csub_text.specs.declared.parts.CSection.TheVariants.{NextLocals, AnswerLocal, InputAssigns, GateAssigns}
use Rattle.csub_text.specs.declared.parts.CSection.TheVariants.{NextAssigns, OutputAssigns, AnswerAssign}
use Rattle.csub_text.specs.declared.parts.CSection.TheVariants.{StateAssigns, LastLines}
use Rattle.csub_text.specs.declared.parts.TheConstants.{SECTIONS}

-- the parts of a section
abbrev pub parts_in : Netlist → CSection → List (List ℕ)
parts_in net States = numbered (λ j latch. state_line (net_state j latch)) 0 net.latches
parts_in net Inputs = map (λ name. declaration (input_variable name)) net.inputs
parts_in net Outputs = map (λ o. declaration (output_variable o)) net.outputs
parts_in net Head = head_line ∷ []
parts_in net InputLocals = numbered (λ j name. declaration (input_name j)) 0 net.inputs
parts_in net GateLocals = numbered (λ k gate. declaration (gate_name k gate.wire)) 0 net.gates
parts_in net NextLocals = numbered (λ j latch. declaration (next_name j)) 0 net.latches
parts_in net AnswerLocal = declaration answer_name ∷ []
parts_in net InputAssigns = numbered (λ j name. assign_line (input_assign j name)) 0 net.inputs
parts_in net GateAssigns = numbered (λ k gate. assign_line (gate_assign net k gate)) 0 net.gates
parts_in net NextAssigns = numbered (λ j latch. assign_line (next_assign net j latch)) 0 net.latches
parts_in net OutputAssigns = map (λ o. assign_line (output_assign net o)) net.outputs
parts_in net AnswerAssign = assign_line (answer_assign net) ∷ []
parts_in net StateAssigns = numbered (λ j latch. assign_line (state_assign j latch)) 0 net.latches
parts_in net LastLines = last_lines (Name answer_name) ∷ []

-- all parts
unfoldable pub net_parts : Netlist → List (List ℕ)
net_parts net = flat_map (parts_in net) SECTIONS

-- those after the assignments of gates, of latches' next values, and of outputs
abbrev pub from_next_assigns : Netlist → List (List ℕ)
from_next_assigns net =
    flat_map (parts_in net)
    (NextAssigns ∷ OutputAssigns ∷ AnswerAssign ∷ StateAssigns ∷ LastLines ∷ [])

abbrev pub from_output_assigns : Netlist → List (List ℕ)
from_output_assigns net = flat_map (parts_in net) (OutputAssigns ∷ AnswerAssign ∷ StateAssigns ∷ LastLines ∷ [])

abbrev pub from_state_assigns : Netlist → List (List ℕ)
from_state_assigns net = flat_map (parts_in net) (StateAssigns ∷ LastLines ∷ [])
