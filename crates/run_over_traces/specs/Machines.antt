-- To believe: what a machine answers to items, and the lines of its answers.
use Rattle.std.specs.Prelude.{◌≡◌, ℕ, Bool, List, ◌∷◌}
use Rattle.std.specs.List.{flat_map}
use Rattle.base_types.specs.Items.{Item, Event, Reset}
use Rattle.run_trace_io.specs.declared.lines.Word.{Word}
use Rattle.run_trace_io.specs.Lines.{line}

-- what an instant shows: for each outgoing signal whether it is present, and what is said of the program after it
pub record ShownAnswer : Type 0 where
  pub present : List Bool
  pub word : Word

-- Of a type of machines, `shows` says which answers a machine of it gives to items, from its present state on. An event
-- leaves the machine so that whatever it shows from then on, it has shown this answer before.
pub record Answered {S : Type 0} (shows : S → List Item → List ShownAnswer → Type 0) (old : S) (event : List Bool)
    (answer : ShownAnswer) (new : S) : Type 0 where
  pub in_front : (items : List Item) (answers : List ShownAnswer)
      → shows new items answers → shows old (Event event ∷ items) (answer ∷ answers)

-- a reset has no answer
abbrev pub PutBack : {S : Type 0} → (S → List Item → List ShownAnswer → Type 0) → S → S → Type 0
PutBack shows old new =
    (items : List Item) (answers : List ShownAnswer) → shows new items answers → shows old (Reset ∷ items) answers

-- the lines of answers, one after another, where the outgoing signals have these names
abbrev pub answer_lines : List (List ℕ) → List ShownAnswer → List ℕ
answer_lines names answers = flat_map (λ answer. line names answer.present answer.word) answers

-- the machine shows some answers to the items, and the text is their lines
pub record Brings {S : Type 0} (shows : S → List Item → List ShownAnswer → Type 0) (names : List (List ℕ)) (s : S)
    (items : List Item) (text : List ℕ) : Type 0 where
  pub answers : List ShownAnswer
  pub shown : shows s items answers
  pub lines : text ≡ answer_lines names answers
