-- To believe: the program that stands for a net, its text, and what the text means. Input J of the net is the local
-- `iJ`, latch J the state `sJ`, and gate K the local `wN` where it carries wire N, else `gK`. The next value of latch J
-- is computed into `tJ`, and whether the program is still active into `r`, which is returned.
use Rattle.std.specs.Prelude.{◌≡◌, ℕ, Bool, true, false, List, [], ◌∷◌, ◌++◌, length}
use Rattle.std.specs.Prelude.{map, flat_map, codes, decimal, drop}
use Rattle.base_types.specs.Items.{Item, EachEvent}
use Rattle.net_ir.specs.declared.netlist.Gate.{Gate}
use Rattle.net_ir.specs.declared.netlist.Latch.{Latch}
use Rattle.net_ir.specs.declared.netlist.NetOut.{NetOut}
use Rattle.net_ir.specs.Netlists.{Netlist, first_gate}
use Rattle.net_ir.specs.Numbered.{numbered}
use Rattle.net_ir.specs.Runs.{Shown, net_run, net_values_run}
use Rattle.csub_text.specs.Trees.{Expr, Name, StateVariable, Assign, Program}
use Rattle.net_expressions.specs.Texts.{text_of}
pub use Rattle.net_expressions.specs.Operators.{op_expr}
pub use Rattle.net_expressions.specs.NetNames.{state_name, gate_name, gate_names, name_of_net}
use Rattle.csub_text.specs.Names.{inputs_of, outputs_of}
use Rattle.csub_text.specs.Texts.{Describes}
use Rattle.csub_text.specs.Machine.{SeenCall, memories, run}

-- ---- names

abbrev pub input_name : ℕ → List ℕ
input_name j = codes "i" ++ decimal j

abbrev pub next_name : ℕ → List ℕ
next_name j = codes "t" ++ decimal j

abbrev pub answer_name : List ℕ
answer_name = codes "r"

-- the name of a net, by its number
abbrev pub net_name : Netlist → ℕ → List ℕ
net_name = name_of_net input_name

-- the variables of inputs and outputs
abbrev pub input_variable : List ℕ → List ℕ
input_variable name = codes "I_" ++ name

abbrev pub output_variable : NetOut → List ℕ
output_variable output = codes "O_" ++ output.name

-- ---- the program

abbrev pub net_state : ℕ → Latch → StateVariable
net_state j latch = record { name = state_name j; init = latch.init }

-- each input is copied into its local
abbrev pub input_assign : ℕ → List ℕ → Assign
input_assign j name = record { target = input_name j; value = Name (input_variable name) }

abbrev pub gate_assign : Netlist → ℕ → Gate → Assign
gate_assign net k gate = record { target = gate_name k gate.wire; value = op_expr (net_name net) gate.op }

abbrev pub next_assign : Netlist → ℕ → Latch → Assign
next_assign net j latch = record { target = next_name j; value = Name (net_name net latch.from.0) }

abbrev pub output_assign : Netlist → NetOut → Assign
output_assign net output = record { target = output_variable output; value = Name (net_name net output.net.0) }

abbrev pub answer_assign : Netlist → Assign
answer_assign net = record { target = answer_name; value = Name (net_name net net.paused) }

abbrev pub state_assign : ℕ → Latch → Assign
state_assign j latch = record { target = state_name j; value = Name (next_name j) }

abbrev pub net_globals : Netlist → List (List ℕ)
net_globals net = map input_variable net.inputs ++ map output_variable net.outputs

abbrev pub net_locals : Netlist → List (List ℕ)
net_locals net =
    numbered (λ j name. input_name j) 0 net.inputs ++ (gate_names net
    ++ (numbered (λ j latch. next_name j) 0 net.latches ++ (answer_name ∷ [])))

abbrev pub net_body : Netlist → List Assign
net_body net =
    numbered input_assign 0 net.inputs ++ (numbered (gate_assign net) 0 net.gates
    ++ (numbered (next_assign net) 0 net.latches ++ (map (output_assign net) net.outputs
    ++ ((answer_assign net ∷ []) ++ numbered state_assign 0 net.latches))))

abbrev pub net_program : Netlist → Program
net_program net = record {
  states = numbered net_state 0 net.latches;
  globals = net_globals net;
  locals = net_locals net;
  body = net_body net;
  answer = Name answer_name;
}

-- ---- the text

abbrev pub bit_text : Bool → List ℕ
bit_text false = codes "0"
bit_text true = codes "1"

abbrev pub expr_text : Expr → List ℕ
expr_text = text_of (codes "!") bit_text

-- the end of a line
abbrev pub line_end : List ℕ
line_end = 59 ∷ 10 ∷ []

abbrev pub state_line : StateVariable → List ℕ
state_line s = codes "static int " ++ (s.name ++ (codes " = " ++ (bit_text s.init ++ line_end)))

abbrev pub declaration : List ℕ → List ℕ
declaration name = codes "int " ++ (name ++ line_end)

abbrev pub assign_line : Assign → List ℕ
assign_line a = a.target ++ (codes " = " ++ (expr_text a.value ++ line_end))

abbrev pub head_line : List ℕ
head_line = codes "int react(void) {" ++ 10 ∷ []

abbrev pub last_lines : Expr → List ℕ
last_lines answer = codes "return " ++ (expr_text answer ++ (line_end ++ 125 ∷ 10 ∷ []))

-- one line for each declaration and each assignment
abbrev pub program_text : Program → List ℕ
program_text p =
    flat_map state_line p.states ++ (flat_map declaration p.globals ++ (head_line
    ++ (flat_map declaration p.locals ++ (flat_map assign_line p.body ++ last_lines p.answer))))

-- the C text of a net
abbrev pub written : Netlist → List ℕ
written net = program_text (net_program net)

-- ---- what the text means

-- what a call shows where a net shows this
abbrev pub shown_by_call : Shown → SeenCall
shown_by_call s = record { outputs = s.outputs; answer = s.paused }

-- A text means a net: it describes a program with the net's inputs, outputs and latches, which shows at each call what
-- the net shows at the event.
pub record Means (text : List ℕ) (net : Netlist) : Type 0 where
  pub program : Program
  pub describes : Describes text program
  pub inputs : inputs_of program ≡ map input_variable net.inputs
  pub outputs : outputs_of program ≡ map output_variable net.outputs
  pub states : program.states ≡ numbered net_state 0 net.latches
  -- over all items of the right width the machine answers what the net shows
  pub shows : (items : List Item) → EachEvent (λ inputs. length inputs ≡ length net.inputs) items
      → run program items ≡ map shown_by_call (net_run net items)
  -- and after each call every gate's name has the gate's value
  pub nets : (items : List Item) → EachEvent (λ inputs. length inputs ≡ length net.inputs) items
      → map (λ memory. map memory (gate_names net)) (memories program items)
      ≡ map (drop (first_gate net)) (net_values_run net items)
