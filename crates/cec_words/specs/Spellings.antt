-- Inner: where the value of an option begins.
use Rattle.std.specs.Prelude.{ℕ, ◌≤◌, List, length, ⊤}
use Rattle.cec_words.specs.declared.steps.Spelling.{Spelling}
use Rattle.cec_words.specs.declared.steps.Spelling.TheVariants.{Bare, Valued}

-- within the word
abbrev pub IsWithin : List ℕ → Spelling → Type 0
IsWithin word (Bare setting) = ⊤
IsWithin word (Valued setting start) = start ≤ length word
