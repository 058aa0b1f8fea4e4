-- To believe: the source that stands for a net, its text, and what the text means. Input X of the net is the input
-- `i_X`, output X the output `o_X`, and whether the program is still active the output `paused`. Latch J is the reg
-- `sJ`, and gate K the wire `wN` where it carries wire N of the graph, else `gK`.
use Rattle.std.specs.Prelude.{◌≡◌, ℕ, Bool, true, false, List, [], ◌∷◌, ◌++◌, length}
use Rattle.std.specs.Prelude.{map, flat_map, codes, slice_get, Option, Some, None}
use Rattle.std.specs.List.{range_with_len}
use Rattle.base_types.specs.Items.{Item, EachEvent}
use Rattle.net_ir.specs.declared.netlist.Gate.{Gate}
use Rattle.net_ir.specs.declared.netlist.Latch.{Latch}
use Rattle.net_ir.specs.declared.netlist.NetOut.{NetOut}
use Rattle.net_ir.specs.Netlists.{Netlist, net_count}
use Rattle.net_ir.specs.Numbered.{numbered}
use Rattle.net_ir.specs.Runs.{net_run, net_values_run}
use Rattle.base_machines.specs.Machines.{IsRun}
use Rattle.net_expressions.specs.Trees.{Expr, Name}
use Rattle.net_expressions.specs.Texts.{text_of}
use Rattle.net_expressions.specs.Operators.{op_expr}
use Rattle.net_expressions.specs.NetNames.{gate_name, gate_names, state_name, name_of_net}
use Rattle.vlog_text.specs.Trees.{Sort, Input, Output, Wire, Reg, Declaration, Initial, Assign, Next, Source, Register}
use Rattle.vlog_text.specs.Trees.{VerilogModule}
use Rattle.vlog_text.specs.Names.{paused_name}
use Rattle.vlog_text.specs.Texts.{Describes}
use Rattle.vlog_text.specs.Machine.{vlog_machine, driven_names}

-- ---- names

abbrev pub module_name : List ℕ → List ℕ
module_name name = codes "m_" ++ name

abbrev pub clock_name : List ℕ
clock_name = codes "clk"

abbrev pub input_name : List ℕ → List ℕ
input_name name = codes "i_" ++ name

abbrev pub output_name : NetOut → List ℕ
output_name output = codes "o_" ++ output.name

-- the name of an input, by its number
abbrev pub name_at : Option (List ℕ) → List ℕ
name_at None = []
name_at (Some name) = input_name name

-- the name of a net, by its number
abbrev pub net_name : Netlist → ℕ → List ℕ
net_name net = name_of_net (λ n. name_at (slice_get net.inputs n)) net

-- ---- the source

abbrev pub declares : Sort → List ℕ → Declaration
declares sort name = record { sort = sort; name = name }

abbrev pub assigns_name : List ℕ → List ℕ → Assign Expr
assigns_name target source = record { target = target; value = Name source }

abbrev pub gate_assign : Netlist → ℕ → Gate → Assign Expr
gate_assign net k gate = record { target = gate_name k gate.wire; value = op_expr (net_name net) gate.op }

abbrev pub output_assign : Netlist → NetOut → Assign Expr
output_assign net output = assigns_name (output_name output) (net_name net output.net.0)

abbrev pub paused_assign : Netlist → Assign Expr
paused_assign net = assigns_name paused_name (net_name net net.paused)

abbrev pub latch_initial : ℕ → Latch → Initial
latch_initial j latch = record { name = state_name j; value = latch.init }

abbrev pub latch_next : Netlist → ℕ → Latch → Next
latch_next net j latch = record { target = state_name j; source = net_name net latch.from.0 }

abbrev pub net_inputs : Netlist → List (List ℕ)
net_inputs net = clock_name ∷ map input_name net.inputs

abbrev pub net_outputs : Netlist → List (List ℕ)
net_outputs net = map output_name net.outputs ++ paused_name ∷ []

abbrev pub net_declarations : Netlist → List Declaration
net_declarations net =
    map (declares Input) (net_inputs net) ++ (map (declares Output) (net_outputs net)
    ++ (numbered (λ j latch. declares Reg (state_name j)) 0 net.latches
    ++ numbered (λ k gate. declares Wire (gate_name k gate.wire)) 0 net.gates))

abbrev pub net_assigns : Netlist → List (Assign Expr)
net_assigns net =
    numbered (gate_assign net) 0 net.gates ++ (map (output_assign net) net.outputs ++ paused_assign net ∷ [])

abbrev pub net_source : Netlist → Source Expr
net_source net = record {
  name = module_name net.name;
  ports = net_inputs net ++ net_outputs net;
  declarations = net_declarations net;
  initials = numbered latch_initial 0 net.latches;
  assigns = net_assigns net;
  clock = clock_name;
  nexts = numbered (latch_next net) 0 net.latches;
}

-- ---- the text

abbrev pub bit_text : Bool → List ℕ
bit_text false = codes "1'b0"
bit_text true = codes "1'b1"

abbrev pub expr_text : Expr → List ℕ
expr_text = text_of (codes "~") bit_text

-- the end of a line
abbrev pub line_end : List ℕ
line_end = 59 ∷ 10 ∷ []

abbrev pub sort_text : Sort → List ℕ
sort_text Input = codes "input "
sort_text Output = codes "output "
sort_text Wire = codes "wire "
sort_text Reg = codes "reg "

abbrev pub next_port : List ℕ → List ℕ
next_port name = codes ", " ++ name

abbrev pub ports_text : List (List ℕ) → List ℕ
ports_text [] = []
ports_text (name ∷ others) = name ++ flat_map next_port others

abbrev pub head_front : List ℕ → List ℕ
head_front name = codes "module " ++ (name ++ codes "(")

abbrev pub head_end : List ℕ
head_end = codes ")" ++ line_end

abbrev pub declaration_line : Declaration → List ℕ
declaration_line d = sort_text d.sort ++ (d.name ++ line_end)

abbrev pub initial_line : Initial → List ℕ
initial_line i = codes "initial " ++ (i.name ++ (codes " = " ++ (bit_text i.value ++ line_end)))

abbrev pub assign_line : Assign Expr → List ℕ
assign_line a = codes "assign " ++ (a.target ++ (codes " = " ++ (expr_text a.value ++ line_end)))

abbrev pub clock_line : List ℕ → List ℕ
clock_line clock = codes "always @(posedge " ++ (clock ++ (codes ") begin" ++ 10 ∷ []))

abbrev pub next_line : Next → List ℕ
next_line n = n.target ++ (codes " <= " ++ (n.source ++ line_end))

abbrev pub last_lines : List ℕ
last_lines = codes "end" ++ (10 ∷ [] ++ (codes "endmodule" ++ 10 ∷ []))

-- one line for the ports, and one for each declaration, `initial`, assignment and register
abbrev pub source_text : Source Expr → List ℕ
source_text s =
    head_front s.name ++ (ports_text s.ports ++ (head_end
    ++ (flat_map declaration_line s.declarations ++ (flat_map initial_line s.initials
    ++ (flat_map assign_line s.assigns ++ (clock_line s.clock ++ (flat_map next_line s.nexts ++ last_lines)))))))

-- the text of a net
abbrev pub written : Netlist → List ℕ
written net = source_text (net_source net)

-- ---- what the text means

abbrev pub net_register : Netlist → ℕ → Latch → Register
net_register net j latch = record { name = state_name j; init = latch.init; from = net_name net latch.from.0 }

-- A text means a net: it describes a module with the net's name, inputs, outputs and latches, which shows at each
-- event of its runs what the net shows.
pub record Means (text : List ℕ) (net : Netlist) : Type 0 where
  pub design : VerilogModule
  pub describes : Describes text design
  pub name : design.name ≡ module_name net.name
  pub inputs : design.inputs ≡ net_inputs net
  pub outputs : design.outputs ≡ net_outputs net
  pub registers : design.registers ≡ numbered (net_register net) 0 net.latches
  -- the wires are those of the gates
  pub wires : design.wires ≡ gate_names net
  -- over all items of the right width there is a run
  pub runs : (items : List Item) → EachEvent (λ inputs. length inputs ≡ length net.inputs) items
      → (valuations : List (List ℕ → Bool)) × IsRun (vlog_machine design) items valuations
  -- any two runs agree on every name that is driven
  pub one_run : (items : List Item) (us vs : List (List ℕ → Bool))
      → IsRun (vlog_machine design) items us → IsRun (vlog_machine design) items vs
      → map (λ u. map u (driven_names design)) us ≡ map (λ v. map v (driven_names design)) vs
  -- at each event of a run the outputs have the net's values, and the last one that of `paused`
  pub shows : (items : List Item) (valuations : List (List ℕ → Bool)) → IsRun (vlog_machine design) items valuations
      → map (λ v. map v design.outputs) valuations ≡ map (λ s. s.outputs ++ s.paused ∷ []) (net_run net items)
  -- and every net's name has the net's value
  pub nets : (items : List Item) (valuations : List (List ℕ → Bool)) → IsRun (vlog_machine design) items valuations
      → map (λ v. map (λ n. v (net_name net n)) (range_with_len 0 (net_count net))) valuations
      ≡ net_values_run net items
