-- To believe: the component that stands for a net, its texts, and what they mean. The component has the name of the
-- net. Latch J of the net is the member `stateJ` of the state, and an input or an output is the member of its own name.
-- Gate K is the local `gK`; the next value of latch J is computed into `nextJ`, and whether the program is still active
-- into `running`, which is returned.
use Rattle.std.specs.Prelude.{◌≡◌, ℕ, ◌-◌, Bool, true, false, ◌||◌, List, [], ◌∷◌, ◌++◌, length, nat_lt}
use Rattle.std.specs.Prelude.{map, flat_map, codes, decimal, slice_index_or, if◌then◌else◌}
use Rattle.std.specs.List.{list_any}
use Rattle.base_types.specs.Items.{EachEvent}
use Rattle.net_ir.specs.declared.netlist.Gate.{Gate}
use Rattle.net_ir.specs.declared.netlist.Latch.{Latch}
use Rattle.net_ir.specs.declared.netlist.NetOut.{NetOut}
use Rattle.net_ir.specs.declared.netlist.Op.{Op}
use Rattle.net_ir.specs.declared.netlist.Op.TheVariants as ops
use Rattle.net_ir.specs.Netlists.{Netlist, first_gate, output_names}
use Rattle.net_ir.specs.Numbered.{numbered}
use Rattle.net_ir.specs.Runs.{net_run}
use Rattle.csub_text.specs.Written.{shown_by_call}
use Rattle.csub_embed.specs.Trees.{StateVariable, Place, State, Given, Local, Value, Const, Copy, Not, And, Or}
use Rattle.csub_embed.specs.Trees.{LocalValue, Transfer, Component, name_of_state}
use Rattle.csub_embed.specs.Grammar.{self_word, in_word, out_word}
use Rattle.csub_embed.specs.Machine.{Call, InstanceStates, run_calls, own_seen, own_items, BeginsReset}
use Rattle.csub_embed.specs.Texts.{Describes, EmbedFiles, One, Two, lines_before, lines_after}
use Rattle.csub_embed.specs.declared.layout.EmbedLayout.{EmbedLayout}
use Rattle.csub_embed.specs.declared.layout.EmbedFile.{EmbedFile}
use Rattle.csub_embed.specs.declared.layout.EmbedFile.TheVariants.{Header, Declarations, Definitions}

-- ---- names

abbrev pub state_word : ℕ → List ℕ
state_word j = codes "state" ++ decimal j

abbrev pub gate_word : ℕ → List ℕ
gate_word k = codes "g" ++ decimal k

abbrev pub next_word : ℕ → List ℕ
next_word j = codes "next" ++ decimal j

abbrev pub running_word : List ℕ
running_word = codes "running"

-- ---- the component

abbrev pub net_state : ℕ → Latch → StateVariable
net_state j latch = record { name = state_word j; init = latch.init }

-- where the value of a net is, by its number
abbrev pub place_of : Netlist → ℕ → Place
place_of net n =
    if nat_lt n (length net.inputs) then Given (slice_index_or net.inputs n [])
    else (if nat_lt n (first_gate net) then State (state_word (n - length net.inputs))
    else Local (gate_word (n - first_gate net)))

-- what an operator makes of the nets that it reads
abbrev pub op_value_of : (ℕ → Place) → Op → Value
op_value_of place (ops.Const value) = Const value
op_value_of place (ops.Copy n) = Copy (place n.0)
op_value_of place (ops.Not n) = Not (place n.0)
op_value_of place (ops.And m n) = And (place m.0) (place n.0)
op_value_of place (ops.Or m n) = Or (place m.0) (place n.0)

abbrev pub gate_local : Netlist → ℕ → Gate → LocalValue
gate_local net k gate = record { name = gate_word k; value = op_value_of (place_of net) gate.op }

abbrev pub next_local : Netlist → ℕ → Latch → LocalValue
next_local net j latch = record { name = next_word j; value = Copy (place_of net latch.from.0) }

abbrev pub running_local : Netlist → LocalValue
running_local net = record { name = running_word; value = Copy (place_of net net.paused) }

abbrev pub output_store : Netlist → NetOut → Transfer
output_store net output = record { member = output.name; from = place_of net output.net.0 }

abbrev pub state_store : ℕ → Latch → Transfer
state_store j latch = record { member = state_word j; from = Local (next_word j) }

-- whether something reads an input
abbrev pub op_below : ℕ → Op → Bool
op_below end (ops.Const value) = false
op_below end (ops.Copy n) = nat_lt n.0 end
op_below end (ops.Not n) = nat_lt n.0 end
op_below end (ops.And m n) = nat_lt m.0 end || nat_lt n.0 end
op_below end (ops.Or m n) = nat_lt m.0 end || nat_lt n.0 end

abbrev pub reads_input : Netlist → Bool
reads_input net =
    list_any (λ g. op_below (length net.inputs) g.op) net.gates
    || (list_any (λ l. nat_lt l.from.0 (length net.inputs)) net.latches
    || (list_any (λ o. nat_lt o.net.0 (length net.inputs)) net.outputs || nat_lt net.paused (length net.inputs)))

-- the parameters that nothing uses
abbrev pub where_empty : {X : Type 0} → List X → List ℕ → List (List ℕ)
where_empty [] name = name ∷ []
where_empty (x ∷ xs) name = []

abbrev pub where_unread : Bool → List (List ℕ)
where_unread true = []
where_unread false = in_word ∷ []

abbrev pub net_ignored : Netlist → List (List ℕ)
net_ignored net =
    where_empty net.latches self_word ++ (where_unread (reads_input net) ++ where_empty net.outputs out_word)

abbrev pub net_locals : Netlist → List LocalValue
net_locals net =
    numbered (gate_local net) 0 net.gates ++ (numbered (next_local net) 0 net.latches ++ running_local net ∷ [])

abbrev pub net_component : Netlist → Component
net_component net = record {
  name = net.name;
  states = numbered net_state 0 net.latches;
  inputs = net.inputs;
  outputs = output_names net;
  ignored = net_ignored net;
  locals = net_locals net;
  shown = map (output_store net) net.outputs;
  kept = numbered state_store 0 net.latches;
  answer = Local running_word;
}

-- ---- the text

abbrev pub bit_text : Bool → List ℕ
bit_text true = codes "true"
bit_text false = codes "false"

abbrev pub written_place : Place → List ℕ
written_place (State name) = codes "self->" ++ name
written_place (Given name) = codes "in->" ++ name
written_place (Local name) = name

abbrev pub value_text : Value → List ℕ
value_text (Const value) = bit_text value
value_text (Copy place) = written_place place
value_text (Not place) = codes "!" ++ written_place place
value_text (And first second) = written_place first ++ (codes " & " ++ written_place second)
value_text (Or first second) = written_place first ++ (codes " | " ++ written_place second)

-- the end of a line
abbrev pub line_end : List ℕ
line_end = codes ";\n"

abbrev pub comment_tail : List ℕ
comment_tail =
    codes ", by cec-opt 0.1.0: cec-opt c --embed. Any number of instances.\n"
    ++ codes " * Reset an instance before its first call of react; react returns whether it is still running. */\n"

abbrev pub comment : List ℕ → List ℕ
comment name = codes "\n/* " ++ (name ++ comment_tail)

abbrev pub open_text : List ℕ
open_text = codes "\ntypedef struct {\n"

-- a packed member has one bit
abbrev pub member_end : (packed : Bool) → List ℕ
member_end true = codes " : 1;\n"
member_end false = line_end

abbrev pub member_line : (packed : Bool) → List ℕ → List ℕ
member_line packed name = codes "    bool " ++ (name ++ member_end packed)

abbrev pub unused_line : {X : Type 0} → List X → List ℕ
unused_line [] = codes "    uint8_t unused;\n"
unused_line (x ∷ xs) = []

abbrev pub close_text : List ℕ → List ℕ
close_text type = codes "} " ++ (type ++ line_end)

-- the functions of a header are static and inline
abbrev pub linkage_text : EmbedFile → List ℕ
linkage_text Header = codes "static inline "
linkage_text Declarations = []
linkage_text Definitions = []

abbrev pub reset_head : EmbedFile → List ℕ → List ℕ
reset_head file name =
    linkage_text file ++ (codes "void " ++ ((name ++ codes "_reset") ++ (codes "(" ++ ((name ++ codes "_t")
    ++ codes " *self)"))))

abbrev pub react_head : EmbedFile → List ℕ → List ℕ
react_head file name =
    linkage_text file ++ (codes "bool " ++ ((name ++ codes "_react") ++ (codes "(" ++ ((name ++ codes "_t")
    ++ (codes " *self, const " ++ ((name ++ codes "_inputs_t") ++ (codes " *in, " ++ ((name ++ codes "_outputs_t")
    ++ codes " *out)"))))))))

-- a function begins
abbrev pub body_start : List ℕ
body_start = codes "\n{\n"

abbrev pub ignored_line : List ℕ → List ℕ
ignored_line parameter = codes "    (void)" ++ (parameter ++ line_end)

abbrev pub untouched_line : {X : Type 0} → List X → List ℕ
untouched_line [] = ignored_line self_word
untouched_line (x ∷ xs) = []

abbrev pub first_line : StateVariable → List ℕ
first_line s = codes "    self->" ++ (s.name ++ (codes " = " ++ (bit_text s.init ++ line_end)))

abbrev pub local_line : LocalValue → List ℕ
local_line l = codes "    const bool " ++ (l.name ++ (codes " = " ++ (value_text l.value ++ line_end)))

abbrev pub store_line : List ℕ → Transfer → List ℕ
store_line structure s =
    codes "    " ++ (structure ++ (codes "->" ++ (s.member ++ (codes " = " ++ (written_place s.from ++ line_end)))))

abbrev pub return_lines : Place → List ℕ
return_lines place = codes "    return " ++ (written_place place ++ codes ";\n}\n")

abbrev pub structure_text : (packed : Bool) → List ℕ → List (List ℕ) → List ℕ
structure_text packed type members =
    open_text ++ (flat_map (member_line packed) members ++ (unused_line members ++ close_text type))

abbrev pub structures_text : (packed : Bool) → Component → List ℕ
structures_text packed c =
    structure_text packed (c.name ++ codes "_t") (map name_of_state c.states)
    ++ (structure_text false (c.name ++ codes "_inputs_t") c.inputs
    ++ structure_text false (c.name ++ codes "_outputs_t") c.outputs)

abbrev pub prototype_text : List ℕ → List ℕ
prototype_text name =
    codes "\n" ++ (reset_head Declarations name ++ (line_end ++ (react_head Declarations name ++ line_end)))

abbrev pub function_text : EmbedFile → Component → List ℕ
function_text file c =
    codes "\n" ++ (reset_head file c.name ++ (body_start ++ (flat_map first_line c.states
    ++ (untouched_line (map name_of_state c.states) ++ (codes "}\n\n" ++ (react_head file c.name ++ (body_start
    ++ (flat_map ignored_line c.ignored ++ (flat_map local_line c.locals
    ++ (flat_map (store_line out_word) c.shown ++ (flat_map (store_line self_word) c.kept
    ++ return_lines c.answer)))))))))))

abbrev pub file_text : EmbedFile → (packed : Bool) → Component → List ℕ
file_text Header packed c = structures_text packed c ++ function_text Header c
file_text Declarations packed c = structures_text packed c ++ prototype_text c.name
file_text Definitions packed c = function_text Definitions c

-- what is between the lines for the preprocessor
abbrev pub body_text : EmbedLayout → Component → List ℕ
body_text layout c = comment c.name ++ file_text layout.file layout.packed c

abbrev pub component_text : EmbedLayout → Component → List ℕ
component_text layout c =
    lines_before layout.file c.name ++ (body_text layout c ++ lines_after layout.file)

-- the embedded C text of a net
abbrev pub written : EmbedLayout → Netlist → List ℕ
written layout net = component_text layout (net_component net)

-- The files to which a text of this layout belongs. The other one of two files is that of the same net.
abbrev pub files_beside : EmbedFile → (packed : Bool) → List ℕ → Netlist → EmbedFiles
files_beside Header packed text net = One text
files_beside Declarations packed text net = Two text (written (record { packed = packed; file = Definitions }) net)
files_beside Definitions packed text net = Two (written (record { packed = packed; file = Declarations }) net) text

abbrev pub files_with : EmbedLayout → List ℕ → Netlist → EmbedFiles
files_with layout text net = files_beside layout.file layout.packed text net

-- ---- what the files mean

-- Files mean a net: they describe a component with the net's name, inputs, outputs and latches. Of whatever the
-- instances hold before, and in whatever order the instances are called: an instance that is reset before its first
-- event shows at each call what the net shows at the event.
pub record Means (packed : Bool) (files : EmbedFiles) (net : Netlist) : Type 0 where
  pub component : Component
  pub describes : Describes packed files component
  pub name : component.name ≡ net.name
  pub inputs : component.inputs ≡ net.inputs
  pub outputs : component.outputs ≡ output_names net
  pub states : component.states ≡ numbered net_state 0 net.latches
  pub shows : (instances : InstanceStates) (calls : List Call) (k : ℕ) → BeginsReset (own_items k calls)
      → EachEvent (λ inputs. length inputs ≡ length net.inputs) (own_items k calls)
      → own_seen k (run_calls component instances calls) ≡ map shown_by_call (net_run net (own_items k calls))
