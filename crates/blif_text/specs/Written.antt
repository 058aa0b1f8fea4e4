-- To believe: the circuit that stands for a net, its BLIF text, and what the text means. Net names are `_iJ`
-- for input J, `_sJ` for latch J, and for gate K `_wN` if it carries wire N, else `_gK`. An input also has its
-- own name, and so has an output; where that is an input's name too, the output is written `NAME.out`. No name
-- of a net has a `.` or begins with `_`.
use Rattle.std.specs.Prelude.{◌≡◌, ℕ, ◌-◌, Bool, true, false, if◌then◌else◌, nat_lt, List, [], ◌∷◌, ◌++◌, length}
use Rattle.std.specs.Prelude.{map, codes, decimal, Option, Some, None, Ok}
use Rattle.std.specs.List.{range_with_len}
use Rattle.base_types.specs.declared.indices.WireId.{WireId}
use Rattle.net_ir.specs.declared.netlist.Op.{Op}
use Rattle.net_ir.specs.declared.netlist.Op.TheVariants.{Const, Copy, Not, And, Or}
use Rattle.net_ir.specs.declared.netlist.Gate.{Gate}
use Rattle.net_ir.specs.declared.netlist.Latch.{Latch}
use Rattle.net_ir.specs.declared.netlist.NetOut.{NetOut}
use Rattle.base_types.specs.Items.{Item, EachEvent}
use Rattle.net_ir.specs.NameLists.{is_among}
use Rattle.net_ir.specs.Netlists.{Netlist, first_gate, net_count, wire_at}
use Rattle.net_ir.specs.Numbered.{numbered}
use Rattle.net_ir.specs.Runs.{net_run, net_values_run}
use Rattle.blif_text.specs.Statements.{Cell, Zero, One, Any}
use Rattle.blif_text.specs.Circuits.{Circuit, CircuitLatch, Table, reading}
pub use Rattle.blif_text.specs.OutputNames.{output_word, paused_word}
use Rattle.blif_text.specs.Spelled.{circuit_text}
use Rattle.blif_text.specs.Runs.{IsCircuitRun, driven_names}

-- ---- names

abbrev pub input_word : ℕ → List ℕ
input_word j = codes "_i" ++ decimal j

abbrev pub latch_word : ℕ → List ℕ
latch_word j = codes "_s" ++ decimal j

abbrev pub gate_word : ℕ → Option WireId → List ℕ
gate_word k None = codes "_g" ++ decimal k
gate_word k (Some wire) = codes "_w" ++ decimal wire.0

-- the name of a net, by its number
abbrev pub net_word : Netlist → ℕ → List ℕ
net_word net n =
    if nat_lt n (length net.inputs) then input_word n
    else (if nat_lt n (first_gate net) then latch_word (n - length net.inputs)
    else gate_word (n - first_gate net) (wire_at net.gates (n - first_gate net)))

-- for each output, whether its name is also that of an input
abbrev pub given_outputs : Netlist → List Bool
given_outputs net = map (λ o. is_among o.name net.inputs) net.outputs

-- ---- the circuit

abbrev pub operands : Op → List ℕ
operands (Const value) = []
operands (Copy n) = n.0 ∷ []
operands (Not n) = n.0 ∷ []
operands (And m n) = m.0 ∷ n.0 ∷ []
operands (Or m n) = m.0 ∷ n.0 ∷ []

-- the rows of an operator's table
abbrev pub op_rows : Op → List (List Cell)
op_rows (Const true) = [] ∷ []
op_rows (Const false) = []
op_rows (Copy n) = (One ∷ []) ∷ []
op_rows (Not n) = (Zero ∷ []) ∷ []
op_rows (And m n) = (One ∷ One ∷ []) ∷ []
op_rows (Or m n) = (One ∷ Any ∷ []) ∷ (Any ∷ One ∷ []) ∷ []

-- a table that copies a name
abbrev pub copy_table : List ℕ → List ℕ → Table
copy_table source target = record { inputs = source ∷ []; output = target; rows = (One ∷ []) ∷ [] }

abbrev pub input_table : ℕ → List ℕ → Table
input_table j name = copy_table name (input_word j)

abbrev pub gate_table : Netlist → ℕ → Gate → Table
gate_table net k gate = record {
  inputs = map (net_word net) (operands gate.op);
  output = gate_word k gate.wire;
  rows = op_rows gate.op;
}

abbrev pub output_table : Netlist → NetOut → Table
output_table net output = copy_table (net_word net output.net.0) (output_word net.inputs output.name)

abbrev pub net_latch : Netlist → ℕ → Latch → CircuitLatch
net_latch net j latch = record { source = net_word net latch.from.0; target = latch_word j; init = latch.init }

-- the outputs in the text, of which `_paused` is the last
abbrev pub output_words : Netlist → List (List ℕ)
output_words net = map (λ o. output_word net.inputs o.name) net.outputs ++ paused_word ∷ []

-- a table for each input, each gate, each output and `_paused`
abbrev pub net_tables : Netlist → List Table
net_tables net =
    numbered input_table 0 net.inputs ++ numbered (gate_table net) 0 net.gates
    ++ map (output_table net) net.outputs ++ (copy_table (net_word net net.paused) paused_word ∷ [])

abbrev pub net_circuit : Netlist → Circuit
net_circuit net = record {
  name = net.name;
  inputs = net.inputs;
  outputs = output_words net;
  latches = numbered (net_latch net) 0 net.latches;
  tables = net_tables net;
}

-- the BLIF text of a net
abbrev pub written : Netlist → List ℕ
written net = circuit_text (net_circuit net)

-- ---- what the text means

-- A text means a net: it describes a circuit with the net's name, inputs, outputs and latches, which shows at
-- each event of its runs what the net shows.
pub record Means (text : List ℕ) (net : Netlist) : Type 0 where
  pub circuit : Circuit
  pub reads : reading text ≡ Ok circuit
  pub name : circuit.name ≡ net.name
  pub inputs : circuit.inputs ≡ net.inputs
  pub outputs : circuit.outputs ≡ output_words net
  pub latches : circuit.latches ≡ numbered (net_latch net) 0 net.latches
  -- over all items of the right width there is a run
  pub runs : (items : List Item) → EachEvent (λ inputs. length inputs ≡ length net.inputs) items
      → (valuations : List (List ℕ → Bool)) × IsCircuitRun circuit items valuations
  -- any two runs agree on every name that is driven
  pub one_run : (items : List Item) (us vs : List (List ℕ → Bool)) → IsCircuitRun circuit items us
      → IsCircuitRun circuit items vs
      → map (λ u. map u (driven_names circuit)) us ≡ map (λ v. map v (driven_names circuit)) vs
  -- at each event of a run the outputs have the net's values, and the last one that of `paused`
  pub shows : (items : List Item) (valuations : List (List ℕ → Bool)) → IsCircuitRun circuit items valuations
      → map (λ v. map v circuit.outputs) valuations ≡ map (λ s. s.outputs ++ s.paused ∷ []) (net_run net items)
  -- and every net's name has the net's value
  pub nets : (items : List Item) (valuations : List (List ℕ → Bool)) → IsCircuitRun circuit items valuations
      → map (λ v. map (λ n. v (net_word net n)) (range_with_len 0 (net_count net))) valuations
      ≡ net_values_run net items
