-- Contract: what a machine becomes after items.
use Rattle.std.specs.Prelude.{List, ◌∷◌}
use Rattle.base_types.specs.Items.{Item}
use Rattle.run_over_traces.specs.Machines.{ShownAnswer}

-- Of a type of machines, `becomes` says which machine one of it may be after items. An item leaves a machine so that
-- whatever it becomes from then on, it becomes after this item.
abbrev pub Passes : {S : Type 0} → (S → List Item → S → Type 0) → Item → S → S → Type 0
Passes {S} becomes item old new =
    (items : List Item) (last : S) → becomes new items last → becomes old (item ∷ items) last

-- the machine shows these answers to the items, and becomes this one after them
abbrev pub shown_until : {S : Type 0} → (S → List Item → List ShownAnswer → Type 0) → (S → List Item → S → Type 0) → S
    → S → List Item → List ShownAnswer → Type 0
shown_until shows becomes last s items answers = shows s items answers × becomes s items last
