-- To believe: the guarded program that stands for a netlist whose gates belong so to heads, and its text. The gates
-- of a head that stand one after another are a block, whose first half computes them, and whose second half gives 0
-- to those that something beside gates of the head uses.
use Rattle.std.specs.Prelude.{ℕ, ◌+◌, ◌-◌, ◌<◌, Bool, true, false, ◌==◌, if◌then◌else◌, List, [], ◌∷◌, ◌++◌, map}
use Rattle.std.specs.Prelude.{take, drop, filter, flat_map, codes, Option, Some, None, ⊤}
use Rattle.net_ir.specs.declared.netlist.Gate.{Gate}
use Rattle.net_ir.specs.Netlists.{Netlist, wire_at}
use Rattle.net_ir.specs.Numbered.{numbered}
use Rattle.csub_text.specs.Trees.{Assign, Name, Const}
use Rattle.csub_text.specs.Written.{input_name, next_name, input_variable, output_variable}
use Rattle.csub_text.specs.Written.{gate_name, input_assign, gate_assign, next_assign, output_assign, answer_assign}
use Rattle.csub_text.specs.Written.{state_assign, answer_name, net_state, net_globals, net_locals, state_line}
use Rattle.csub_text.specs.Written.{declaration, head_line, assign_line, last_lines}
use Rattle.csub_guard_blocks.specs.Owners.{Owner, Free, Inner, Outer}
use Rattle.csub_guard.specs.Trees.{Piece, One, If, Program}

-- a gate of a block: its place, and whether something beside gates of its head uses it
pub record Member : Type 0 where
  pub place : ℕ
  pub gate : Gate
  pub shown : Bool

-- a gate that belongs to no head, or gates of a head that stand one after another
pub data Group : Type 0 where
  Single : (place : ℕ) (gate : Gate) → Group
  Run : (head : ℕ) (members : List Member) → Group

-- a gate of a head in front of groups
abbrev pub in_run : ℕ → Member → List Group → List Group
in_run h m (Run i members ∷ groups) =
    if h == i then Run i (m ∷ members) ∷ groups else Run h (m ∷ []) ∷ Run i members ∷ groups
in_run h m others = Run h (m ∷ []) ∷ others

abbrev pub in_front : ℕ → Gate → Owner → List Group → List Group
in_front k g Free groups = Single k g ∷ groups
in_front k g (Inner h) groups = in_run h (record { place = k; gate = g; shown = false }) groups
in_front k g (Outer h) groups = in_run h (record { place = k; gate = g; shown = true }) groups

-- the groups of gates from place k on, which belong so
abbrev pub groups : ℕ → List Gate → List Owner → List Group
groups k (g ∷ gates) (o ∷ owners) = in_front k g o (groups (k + 1) gates owners)
groups k others owners = []

-- ---- the program

abbrev pub member_assign : Netlist → Member → Assign
member_assign net m = gate_assign net m.place m.gate

abbrev pub zero_assign : Member → Assign
zero_assign m = record { target = gate_name m.place m.gate.wire; value = Const false }

-- the gate that says whether a head runs
abbrev pub head_name : Netlist → ℕ → List ℕ
head_name net h = gate_name h (wire_at net.gates h)

abbrev pub group_piece : Netlist → Group → Piece
group_piece net (Single k g) = One (gate_assign net k g)
group_piece net (Run h members) =
    If (head_name net h) (map (member_assign net) members)
    (map zero_assign (filter (λ m. m.shown) members))

abbrev pub guarded_body : Netlist → List Owner → List Piece
guarded_body net owners =
    map One (numbered input_assign 0 net.inputs) ++ (map (group_piece net) (groups 0 net.gates owners)
    ++ map One (numbered (next_assign net) 0 net.latches ++ (map (output_assign net) net.outputs
    ++ ((answer_assign net ∷ []) ++ numbered state_assign 0 net.latches))))

abbrev pub guarded_program : Netlist → List Owner → Program
guarded_program net owners = record {
  states = numbered net_state 0 net.latches;
  globals = net_globals net;
  locals = net_locals net;
  body = guarded_body net owners;
  answer = Name answer_name;
}

-- ---- the text

abbrev pub if_line : List ℕ → List ℕ
if_line test = codes "if (" ++ (test ++ codes ") {\n")

abbrev pub else_line : List ℕ
else_line = codes "} else {\n"

abbrev pub end_line : List ℕ
end_line = codes "}\n"

abbrev pub second_text : List Assign → List ℕ
second_text [] = end_line
second_text (a ∷ assigns) = else_line ++ (flat_map assign_line (a ∷ assigns) ++ end_line)

abbrev pub piece_text : Piece → List ℕ
piece_text (One a) = assign_line a
piece_text (If test first second) = if_line test ++ (flat_map assign_line first ++ second_text second)

-- one line for each declaration, each assignment, and each end of a half
abbrev pub program_text : Program → List ℕ
program_text p =
    flat_map state_line p.states ++ (flat_map declaration p.globals ++ (head_line
    ++ (flat_map declaration p.locals ++ (flat_map piece_text p.body ++ last_lines p.answer))))

abbrev pub guarded_text : Netlist → List Owner → List ℕ
guarded_text net owners = program_text (guarded_program net owners)

-- ---- what the code writes

abbrev pub groups_text : Netlist → List Group → List ℕ
groups_text net gs = flat_map (λ x. piece_text (group_piece net x)) gs

-- a head is a gate of so many
abbrev pub HasHead : ℕ → Owner → Type 0
HasHead count Free = ⊤
HasHead count (Inner h) = h < count
HasHead count (Outer h) = h < count

-- the head of an owner, and whether something beside gates of the head uses the gate
abbrev pub head_of : Owner → Option ℕ
head_of Free = None
head_of (Inner h) = Some h
head_of (Outer h) = Some h

abbrev pub is_outer : Owner → Bool
is_outer (Outer h) = true
is_outer others = false

-- the gates from place k on, as those of a block
abbrev pub members : ℕ → List Gate → List Owner → List Member
members k (g ∷ gates) (o ∷ owners) = record { place = k; gate = g; shown = is_outer o } ∷ members (k + 1) gates owners
members k others owners = []

-- those from place k on and before the place `end`
abbrev pub members_between : List Gate → List Owner → ℕ → ℕ → List Member
members_between gates owners k end = members k (take (end - k) (drop k gates)) (take (end - k) (drop k owners))

-- the parts of the text of the C subset before those of gates
abbrev pub parts_before : Netlist → List (List ℕ)
parts_before net =
    numbered (λ j latch. state_line (net_state j latch)) 0 net.latches
    ++ (map (λ name. declaration (input_variable name)) net.inputs
    ++ (map (λ o. declaration (output_variable o)) net.outputs ++ head_line
    ∷ (numbered (λ j name. declaration (input_name j)) 0 net.inputs
    ++ (numbered (λ k gate. declaration (gate_name k gate.wire)) 0 net.gates
    ++ (numbered (λ j latch. declaration (next_name j)) 0 net.latches ++ declaration answer_name
    ∷ numbered (λ j name. assign_line (input_assign j name)) 0 net.inputs)))))

abbrev pub parts_of_gates : Netlist → List (List ℕ)
parts_of_gates net = numbered (λ k gate. assign_line (gate_assign net k gate)) 0 net.gates
