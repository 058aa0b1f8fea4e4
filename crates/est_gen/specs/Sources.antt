-- To believe: the generated source, by its start number and its number of branches.
use Rattle.std.specs.Prelude.{ℕ, zero, suc, ◌+◌, ◌-◌, ◌==◌, if◌then◌else◌, List, [], ◌∷◌, ◌++◌, codes, decimal}
use Rattle.std.specs.List.{concat}
use Rattle.base_types.specs.Draws.{first_state, drawn, state_after}

-- the names of a mark and a number, as many as are asked for from a number on, with a comma and a space before each but
-- the first
abbrev pub names_from : List ℕ → ℕ → ℕ → List ℕ
names_from mark number zero = []
names_from mark number (suc more) =
    (if number == 0 then [] else codes ", ") ++ ((mark ++ decimal number) ++ names_from mark (number + 1) more)

-- the lines before the branches
abbrev pub head_text : ℕ → List ℕ
head_text branches =
    concat (codes "module GEN:\n"
    ∷ codes "input " ∷ names_from (codes "I") 0 8 ∷ codes ";\n"
    ∷ codes "output " ∷ names_from (codes "O") 0 8 ∷ codes ";\n"
    ∷ codes "signal " ∷ names_from (codes "S") 0 branches ∷ codes " in\n"
    ∷ codes "[\n" ∷ [])

-- the signal that a branch waits for: that of the branch before it, and for the first the input with the number of its
-- output
abbrev pub waited_name : ℕ → ℕ → List ℕ
waited_name number output = if number == 0 then codes "I" ++ decimal output else codes "S" ++ decimal (number - 1)

-- the line of a branch, by its shape, its number, and the numbers of its input and output
abbrev pub statement : ℕ → ℕ → ℕ → ℕ → List ℕ
statement shape number input output =
    let A = codes "I" ++ decimal input in
    let O = codes "O" ++ decimal output in
    let S = codes "S" ++ decimal number in
    let Q = waited_name number output in
    concat (
    if shape == 0 then codes "every " ∷ A ∷ codes " do emit " ∷ S ∷ codes "; emit " ∷ O ∷ codes " end every\n" ∷ []
    else if shape == 1 then codes "loop await " ∷ Q ∷ codes "; emit " ∷ S ∷ codes "; present " ∷ A
    ∷ codes " then emit " ∷ O
    ∷ codes " end present end loop\n" ∷ []
    else if shape == 2 then codes "suspend loop present " ∷ Q ∷ codes " then emit " ∷ S
    ∷ codes " end present; pause; emit " ∷ O
    ∷ codes "; pause end loop when " ∷ A ∷ codes "\n" ∷ []
    else codes "loop abort sustain " ∷ S ∷ codes " when " ∷ A ∷ codes "; await 2 " ∷ Q ∷ codes "; emit " ∷ O
    ∷ codes " end loop\n" ∷ [])

-- the line of a branch, from the state before its three draws: the shape, the input and the output
abbrev pub branch_text : ℕ → ℕ → List ℕ
branch_text number x =
    statement (drawn (state_after 1 x) 4) number (drawn (state_after 2 x) 8) (drawn (state_after 3 x) 8)

-- the lines of the branches, as many as are asked for from a number on, with a line `||` before each but the first
abbrev pub branches_text : ℕ → ℕ → ℕ → List ℕ
branches_text number zero x = []
branches_text number (suc more) x =
    (if number == 0 then [] else codes "||\n")
    ++ (branch_text number x ++ branches_text (number + 1) more (state_after 3 x))

abbrev pub source_text : ℕ → ℕ → List ℕ
source_text start branches =
    head_text branches ++ (branches_text 0 branches (first_state start) ++ codes "]\nend signal\nend module\n")
