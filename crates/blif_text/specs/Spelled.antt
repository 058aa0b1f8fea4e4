-- To believe: the one spelling of a circuit as a BLIF text.
use Rattle.std.specs.Prelude.{ℕ, Bool, true, false, List, [], ◌∷◌, ◌++◌, map, flat_map, codes}
use Rattle.blif_text.specs.Statements.{Cell, Zero, One, Any, Statement, Model, Inputs, Outputs, Latch, Names, Row, End}
use Rattle.blif_text.specs.Circuits.{Circuit, CircuitLatch, Table}

-- ---- lines

-- the words of a line: one space separates them, and a line feed ends the line
abbrev pub line_text : List (List ℕ) → List ℕ
line_text [] = 10 ∷ []
line_text (word ∷ words) = word ++ (flat_map (λ w. 32 ∷ w) words ++ 10 ∷ [])

abbrev pub cell_byte : Cell → ℕ
cell_byte Zero = 48
cell_byte One = 49
cell_byte Any = 45

abbrev pub bit_word : Bool → List ℕ
bit_word false = codes "0"
bit_word true = codes "1"

-- the words of a statement
abbrev pub spelled : Statement → List (List ℕ)
spelled (Model name) = codes ".model" ∷ name ∷ []
spelled (Inputs names) = codes ".inputs" ∷ names
spelled (Outputs names) = codes ".outputs" ∷ names
spelled (Latch source target init) = codes ".latch" ∷ source ∷ target ∷ bit_word init ∷ []
spelled (Names inputs output) = codes ".names" ∷ (inputs ++ output ∷ [])
spelled (Row []) = codes "1" ∷ []
spelled (Row (cell ∷ cells)) = map cell_byte (cell ∷ cells) ∷ codes "1" ∷ []
spelled End = codes ".end" ∷ []

-- one line for each statement
abbrev pub text_of : List Statement → List ℕ
text_of statements = flat_map (λ s. line_text (spelled s)) statements

-- ---- circuits

-- the inputs have a line where there are any
abbrev pub inputs_statements : List (List ℕ) → List Statement
inputs_statements [] = []
inputs_statements (name ∷ names) = Inputs (name ∷ names) ∷ []

abbrev pub latch_statement : CircuitLatch → Statement
latch_statement l = Latch l.source l.target l.init

-- the names of a table, and then its rows
abbrev pub table_statements : Table → List Statement
table_statements t = Names t.inputs t.output ∷ map Row t.rows

abbrev pub head_statements : Circuit → List Statement
head_statements circuit =
    (Model circuit.name ∷ []) ++ inputs_statements circuit.inputs ++ (Outputs circuit.outputs ∷ [])

-- the name, the inputs, the outputs, the latches, the tables
abbrev pub circuit_statements : Circuit → List Statement
circuit_statements circuit =
    head_statements circuit ++ map latch_statement circuit.latches
    ++ flat_map table_statements circuit.tables ++ (End ∷ [])

abbrev pub circuit_text : Circuit → List ℕ
circuit_text circuit = text_of (circuit_statements circuit)
