-- Contract: the netlist that says in each instant whether two netlists show the same.
use Rattle.std.specs.Prelude.{◌≡◌, ℕ, ◌+◌, ◌*◌, Bool, false, not, ◌&&◌, ◌||◌, List, [], ◌∷◌, ◌++◌, length, map}
use Rattle.base_types.specs.Items.{Item, EachEvent}
use Rattle.net_ir.specs.Netlists.{Netlist, first_gate}
use Rattle.net_ir.specs.Runs.{Shown, net_run}

-- whether one of two values is true
abbrev pub is_one : Bool → Bool → Bool
is_one x y = (x || y) && not (x && y)

-- whether two lists of values differ at a place that both have, or this was so before
abbrev pub any_differ : Bool → List Bool → List Bool → Bool
any_differ before (x ∷ xs) (y ∷ ys) = any_differ (before || is_one x y) xs ys
any_differ before [] ys = before
any_differ before (x ∷ xs) [] = before

-- whether two netlists show different outputs, or only one of them pauses
abbrev pub is_different : Shown → Shown → Bool
is_different s t = any_differ false (s.outputs ++ s.paused ∷ []) (t.outputs ++ t.paused ∷ [])

-- the same of each instant
abbrev pub differences : List Shown → List Shown → List Bool
differences (s ∷ ss) (t ∷ ts) = is_different s t ∷ differences ss ts
differences [] ts = []
differences (s ∷ ss) [] = []

-- a pair has one output, which `paused` repeats
abbrev pub shown_difference : Bool → Shown
shown_difference b = record { outputs = b ∷ []; paused = b }

-- an event has one value for each input
abbrev pub FitsInputs : Netlist → List Bool → Type 0
FitsInputs net event = length event ≡ length net.inputs

-- A netlist has the inputs of another one, and one output. Over every list of items, events and resets, it shows in
-- each instant whether the two netlists differ.
pub record IsPair (left right pair : Netlist) : Type 0 where
  pub inputs : pair.inputs ≡ left.inputs
  pub outputs : length pair.outputs ≡ 1
  pub runs : (items : List Item) → EachEvent (FitsInputs left) items
      → net_run pair items ≡ map shown_difference (differences (net_run left items) (net_run right items))

-- the number of nets of a pair
abbrev pub pair_count : Netlist → Netlist → ℕ
pair_count a b = length a.inputs + length a.latches + length b.latches + length a.gates + length b.gates + 6
    + 5 * length a.outputs
