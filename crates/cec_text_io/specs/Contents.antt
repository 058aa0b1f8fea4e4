-- To believe: what files hold, where that is reported.
use Rattle.std.specs.Prelude.{◌≡◌, ℕ, ⊤, List, Option, Some, None}

-- what the files tell: under each name the bytes, or nothing at all
abbrev pub Content : Type 0
Content = Option (List ℕ → List ℕ)

-- the bytes under a name are these, where the content is reported
abbrev pub IsHeld : Content → List ℕ → List ℕ → Type 0
IsHeld None name bytes = ⊤
IsHeld (Some held) name bytes = bytes ≡ held name

-- a fact about the bytes under a name
abbrev pub Holds : Content → List ℕ → (List ℕ → Type 0) → Type 0
Holds content name fact = (bytes : List ℕ) × IsHeld content name bytes × fact bytes
