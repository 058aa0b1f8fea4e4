-- To believe: the line of an answer.
use Rattle.std.specs.Prelude.{ℕ, Bool, true, false, List, [], ◌∷◌, ◌++◌, codes, if◌then◌else◌}
use Rattle.run_trace_io.specs.declared.lines.Word.{Word}
use Rattle.run_trace_io.specs.declared.lines.Word.TheVariants.{Paused, Ended, Bare}

-- a name, after a space where a name stands before it
abbrev pub spaced : Bool → List ℕ → List ℕ
spaced behind name = (if behind then codes " " else []) ++ name

-- the names whose signals are present, or `-` where none is: none here, and none before
abbrev pub shown : Bool → List (List ℕ) → List Bool → List ℕ
shown any (name ∷ names) (true ∷ present) = spaced any name ++ shown true names present
shown any (name ∷ names) (false ∷ present) = shown any names present
shown any names present = if any then [] else codes "-"

abbrev pub word_text : Word → List ℕ
word_text Paused = codes " | paused\n"
word_text Ended = codes " | ended\n"
word_text Bare = codes "\n"

abbrev pub line : List (List ℕ) → List Bool → Word → List ℕ
line names present word = shown false names present ++ word_text word
