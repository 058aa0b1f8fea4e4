-- To believe: the statements of the BLIF profile: what each kind of line says, and which may come after which.
-- The form is Berkeley's BLIF, cut down to one model of latches with an initial value and tables of
-- at most eight inputs.
use Rattle.std.specs.Prelude.{◌==◌, ℕ, ◌+◌, Bool, true, false, not, if◌then◌else◌, nat_le, List, [], ◌∷◌, length}
use Rattle.std.specs.Prelude.{flat_map, codes, Option, Some, None, option_map}
use Rattle.base_types.specs.Names.{is_same_name}
pub use Rattle.blif_text.specs.declared.circuit.Cell.{Cell}
pub use Rattle.blif_text.specs.declared.circuit.Cell.TheVariants.{Zero, One, Any}
use Rattle.blif_text.specs.Lines.{Line, is_clean, words, read_lines, text_lines}

pub data Statement : Type 0 where
  Model : (name : List ℕ) → Statement
  Inputs : (names : List (List ℕ)) → Statement
  Outputs : (names : List (List ℕ)) → Statement
  Latch : (source target : List ℕ) (init : Bool) → Statement
  Names : (inputs : List (List ℕ)) (output : List ℕ) → Statement
  Row : (cells : List Cell) → Statement
  End : Statement

-- ---- what the words of one line say

-- `.model`, with at most one name; no name means the empty name
abbrev pub model_of : List (List ℕ) → Option Statement
model_of [] = Some (Model [])
model_of (name ∷ []) = Some (Model name)
model_of (name ∷ other ∷ more) = None

abbrev pub bit_of : List ℕ → Option Bool
bit_of word =
    if is_same_name word (codes "0") then Some false else (if is_same_name word (codes "1") then Some true else None)

-- `.latch FROM TO INIT`, with INIT `0` or `1`
abbrev pub latch_of : List (List ℕ) → Option Statement
latch_of (source ∷ target ∷ init ∷ []) = option_map (Latch source target) (bit_of init)
latch_of others = None

-- the last name is the output
abbrev pub name_before : List ℕ → Option Statement → Option Statement
name_before name (Some (Names inputs output)) = Some (Names (name ∷ inputs) output)
name_before name others = Some (Names [] name)

abbrev pub table_of : List (List ℕ) → Option Statement
table_of [] = None
table_of (name ∷ names) = name_before name (table_of names)

-- `.names`, with 1 to 9 names
abbrev pub names_of : List (List ℕ) → Option Statement
names_of names = if nat_le (length names) 9 then table_of names else None

-- `.end`, alone
abbrev pub end_of : List (List ℕ) → Option Statement
end_of [] = Some End
end_of (word ∷ more) = None

abbrev pub cell_of : ℕ → Option Cell
cell_of c = if c == 48 then Some Zero else (if c == 49 then Some One else (if c == 45 then Some Any else None))

abbrev pub cell_before : Option Cell → Option (List Cell) → Option (List Cell)
cell_before (Some cell) (Some cells) = Some (cell ∷ cells)
cell_before others more = None

-- one cell for each byte, which is `0`, `1` or `-`
abbrev pub cells_of : List ℕ → Option (List Cell)
cells_of [] = Some []
cells_of (c ∷ cs) = cell_before (cell_of c) (cells_of cs)

-- the row of a table with inputs is a word of cells and the word `1`; that of a table without inputs
-- is the word `1`
abbrev pub table_row : List ℕ → List (List ℕ) → Option Statement
table_row word [] = if is_same_name word (codes "1") then Some (Row []) else None
table_row word (value ∷ []) = if is_same_name value (codes "1") then option_map Row (cells_of word) else None
table_row word (value ∷ other ∷ more) = None

-- what the words of a line say, whatever stands before it
abbrev pub statement_of : List (List ℕ) → Option Statement
statement_of [] = None
statement_of (word ∷ rest) =
    if is_same_name word (codes ".model") then model_of rest
    else (if is_same_name word (codes ".inputs") then Some (Inputs rest)
    else (if is_same_name word (codes ".outputs") then Some (Outputs rest)
    else (if is_same_name word (codes ".latch") then latch_of rest
    else (if is_same_name word (codes ".names") then names_of rest
    else (if is_same_name word (codes ".end") then end_of rest
    else table_row word rest)))))

-- a line with words, or with a byte that no line may have: its number, and what it says
pub record Said : Type 0 where
  pub number : ℕ
  pub says : Option Statement

abbrev pub said_by : ℕ → List (List ℕ) → List Said
said_by n [] = []
said_by n (word ∷ rest) = record { number = n; says = statement_of (word ∷ rest) } ∷ []

-- a line without words says nothing, and is passed over
abbrev pub said_in : Line → List Said
said_in line =
    if is_clean line.bytes then said_by line.number (words line.bytes)
    else record { number = line.number; says = None } ∷ []

-- what the lines of a text say, in order
abbrev pub said : List ℕ → List Said
said text = flat_map said_in (read_lines text)

-- ---- the place of a statement

abbrev pub is_end : Statement → Bool
is_end End = true
is_end others = false

-- a row is in a table of its width: after the table's names, or after another of its rows
abbrev pub row_may_follow : Statement → List Cell → Bool
row_may_follow (Names inputs output) cells = length cells == length inputs
row_may_follow (Row above) cells = length cells == length above
row_may_follow others cells = false

-- Whether a statement may stand right after another, or first: the model's name comes first, and
-- nothing comes after `.end`.
abbrev pub may_follow : Option Statement → Statement → Bool
may_follow None (Model name) = true
may_follow None others = false
may_follow (Some before) (Model name) = false
may_follow (Some before) (Row cells) = row_may_follow before cells
may_follow (Some before) others = not (is_end before)

-- whether a line with this statement is refused after another one
abbrev pub is_refused : Option Statement → Option Statement → Bool
is_refused before None = true
is_refused before (Some statement) = not (may_follow before statement)

-- the number of the first line that is refused in its place, where the statement before the lines
-- is given. A missing `.end` is refused at the number after that of the last line.
abbrev pub first_refused : ℕ → Option Statement → List Said → Option ℕ
first_refused after (Some End) [] = None
first_refused after before [] = Some after
first_refused after before (line ∷ lines) =
    if is_refused before line.says then Some line.number else first_refused after line.says lines

-- the first line that is refused in a text
abbrev pub refused_line : List ℕ → Option ℕ
refused_line text = first_refused (length (text_lines text) + 1) None (said text)
