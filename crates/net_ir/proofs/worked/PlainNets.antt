-- Inner: short words for netlists and their runs, for the generated equations.
use Rattle.std.specs.Prelude.{ℕ, ◌+◌, ◌==◌, Bool, true, false, if◌then◌else◌, List, [], ◌∷◌, ◌++◌, map, Some, None, codes}
use Rattle.base_types.specs.Items.{Item, Event, Reset}
use Rattle.net_ir.specs.declared.netlist.Op.{Op}
use Rattle.net_ir.specs.declared.netlist.Op.TheVariants as ops
use Rattle.net_ir.specs.declared.netlist.Gate.{Gate}
use Rattle.net_ir.specs.declared.netlist.Latch.{Latch}
use Rattle.net_ir.specs.declared.netlist.NetOut.{NetOut}
use Rattle.net_ir.specs.Netlists.{Netlist}
use Rattle.net_ir.specs.Runs.{Shown, net_run}

abbrev pub const : Bool → Op
const b = ops.Const b

abbrev pub copy : ℕ → Op
copy n = ops.Copy (record { 0 = n })

abbrev pub not_ : ℕ → Op
not_ n = ops.Not (record { 0 = n })

abbrev pub and_ : ℕ → ℕ → Op
and_ m n = ops.And (record { 0 = m }) (record { 0 = n })

abbrev pub or_ : ℕ → ℕ → Op
or_ m n = ops.Or (record { 0 = m }) (record { 0 = n })

-- a gate that carries no wire
abbrev pub gate : Op → Gate
gate op = record { op = op; wire = None }

-- a gate that carries a wire
abbrev pub carries : ℕ → Op → Gate
carries w op = record { op = op; wire = Some (record { 0 = w }) }

abbrev pub out : List ℕ → ℕ → NetOut
out name n = record { name = name; net = record { 0 = n } }

abbrev pub latch : Bool → ℕ → Latch
latch init n = record { init = init; from = record { 0 = n } }

abbrev pub net : List ℕ → List (List ℕ) → List NetOut → ℕ → List Latch → List Gate → Netlist
net name inputs outputs paused latches gates = record {
  name = name;
  inputs = inputs;
  outputs = outputs;
  paused = paused;
  latches = latches;
  gates = gates;
}

abbrev with_first : ℕ → List (List ℕ) → List (List ℕ)
with_first c [] = (c ∷ []) ∷ []
with_first c (w ∷ ws) = (c ∷ w) ∷ ws

abbrev split : List ℕ → List (List ℕ)
split [] = [] ∷ []
split (c ∷ cs) = if c == 32 then [] ∷ split cs else with_first c (split cs)

-- the words of a text with one space between two
abbrev pub words : List ℕ → List (List ℕ)
words [] = []
words (c ∷ cs) = split (c ∷ cs)

-- a reset is `!`, an instant `.` and a bit for each input
abbrev item : List ℕ → Item
item [] = Reset
item (c ∷ cs) = if c == 33 then Reset else Event (map (λ b. b == 49) cs)

-- items with one space between two
abbrev pub items : List ℕ → List Item
items text = map item (words text)

abbrev bit : Bool → ℕ
bit true = 49
bit false = 48

-- what is shown in an instant: a bit for each output, a slash, and a bit
abbrev pub instant : List Bool → Bool → List ℕ
instant outputs answer = map bit outputs ++ codes "/" ++ (bit answer ∷ [])

-- instants with one space between two
abbrev pub instants : List (List ℕ) → List ℕ
instants [] = []
instants (x ∷ []) = x
instants (x ∷ (y ∷ ys)) = x ++ codes " " ++ instants (y ∷ ys)

-- the run of a net over items
abbrev pub runs : Netlist → List ℕ → List ℕ
runs made text = instants (map (λ shown. instant shown.outputs shown.paused) (net_run made (items text)))
