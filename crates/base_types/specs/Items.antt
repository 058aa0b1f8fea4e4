-- To believe: what drives a program, a netlist or a text from instant to instant.
use Rattle.std.specs.Prelude.{Bool, List, [], ◌∷◌, ⊤}

-- An item of a trace. An event is one instant: a truth value for each given signal, in order. A reset is no
-- instant: it puts whatever is driven back to its start, and has no answer.
pub data Item : Type 0 where
  Event : (given : List Bool) → Item
  Reset : Item

-- each event among the items is such
abbrev pub EachEvent : (List Bool → Type 0) → List Item → Type 0
EachEvent P [] = ⊤
EachEvent P (Event given ∷ items) = P given × EachEvent P items
EachEvent P (Reset ∷ items) = EachEvent P items
