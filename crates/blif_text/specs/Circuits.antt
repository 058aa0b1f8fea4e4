-- To believe: the circuit that a BLIF text of the profile describes, and why a text describes none. The profile is a
-- part of the Berkeley Logic Interchange Format.
use Rattle.std.specs.Prelude.{ℕ, Bool, not, List, [], ◌∷◌, flat_map, filter_map, find, Option, Some, None}
use Rattle.std.specs.Prelude.{Result, Ok, Err}
use Rattle.net_ir.specs.NameLists.{is_among, first_again}
use Rattle.blif_text.specs.Statements.{Cell, Statement, Model, Inputs, Outputs, Latch, Names, Row, said, refused_line}

-- a latch: `target` has the value `init` in the first instant, and in each later one the value that
-- `source` had one instant before
pub record CircuitLatch : Type 0 where
  pub source : List ℕ
  pub target : List ℕ
  pub init : Bool

-- a table: its output is true where some row fits its inputs
pub record Table : Type 0 where
  pub inputs : List (List ℕ)
  pub output : List ℕ
  pub rows : List (List Cell)

pub record Circuit : Type 0 where
  pub name : List ℕ
  pub inputs : List (List ℕ)
  pub outputs : List (List ℕ)
  pub latches : List CircuitLatch
  pub tables : List Table

-- ---- what the statements describe

abbrev pub model_name : List Statement → List ℕ
model_name [] = []
model_name (Model name ∷ statements) = name
model_name (other ∷ statements) = model_name statements

abbrev pub inputs_in : Statement → List (List ℕ)
inputs_in (Inputs names) = names
inputs_in others = []

abbrev pub outputs_in : Statement → List (List ℕ)
outputs_in (Outputs names) = names
outputs_in others = []

abbrev pub latches_in : Statement → List CircuitLatch
latches_in (Latch source target init) = record { source = source; target = target; init = init } ∷ []
latches_in others = []

-- the rows that are in front of all other statements
abbrev pub leading_rows : List Statement → List (List Cell)
leading_rows [] = []
leading_rows (Row cells ∷ statements) = cells ∷ leading_rows statements
leading_rows (other ∷ statements) = []

-- a table has the rows that stand right after its names
abbrev pub tables_of : List Statement → List Table
tables_of [] = []
tables_of (Names inputs output ∷ statements) =
    record { inputs = inputs; output = output; rows = leading_rows statements } ∷ tables_of statements
tables_of (other ∷ statements) = tables_of statements

abbrev pub circuit_of : List Statement → Circuit
circuit_of statements = record {
  name = model_name statements;
  inputs = flat_map inputs_in statements;
  outputs = flat_map outputs_in statements;
  latches = flat_map latches_in statements;
  tables = tables_of statements;
}

-- ---- drivers: each name is driven once, and each name that is used is driven

-- the inputs, the targets of the latches and the outputs of the tables drive a name
abbrev pub driven_by : Statement → List (List ℕ)
driven_by (Inputs names) = names
driven_by (Latch source target init) = target ∷ []
driven_by (Names inputs output) = output ∷ []
driven_by others = []

-- the outputs, the sources of the latches and the inputs of the tables use a name
abbrev pub used_by : Statement → List (List ℕ)
used_by (Outputs names) = names
used_by (Latch source target init) = source ∷ []
used_by (Names inputs output) = inputs
used_by others = []

abbrev pub driven_again : List Statement → Option (List ℕ)
driven_again statements = first_again [] (flat_map driven_by statements)

abbrev pub not_driven : List Statement → Option (List ℕ)
not_driven statements =
    let driven = flat_map driven_by statements in
    find (λ name. not (is_among name driven)) (flat_map used_by statements)

-- ---- the reading of a text

-- why a text is not of the profile
pub data CircuitFault : Type 0 where
  -- the number of the first line that is no line of the profile in its place
  Line : (number : ℕ) → CircuitFault
  -- the first name in the text that is driven a second time
  TwoDrivers : (name : List ℕ) → CircuitFault
  -- the first name in the text that is used and not driven
  NoDriver : (name : List ℕ) → CircuitFault

abbrev pub unless : {F A : Type 0} → Option F → (F → CircuitFault) → Result A CircuitFault → Result A CircuitFault
unless None fault result = result
unless (Some f) fault result = Err (fault f)

abbrev pub statements : List ℕ → List Statement
statements text = filter_map (λ line. line.says) (said text)

-- the circuit that a text describes, or the first of its faults: a line, else a name with two
-- drivers, else a name with none
abbrev pub reading : List ℕ → Result Circuit CircuitFault
reading text =
    let all = statements text in
    unless (refused_line text) Line
    (unless (driven_again all) TwoDrivers (unless (not_driven all) NoDriver (Ok (circuit_of all))))
