-- Inner: what the statements after some place describe, with the rows that are in front of all others.
use Rattle.std.specs.Prelude.{ℕ, List, [], ◌∷◌, ◌++◌, map, reverse}
use Rattle.blif_read.specs.declared.draft.Draft.{Draft}
use Rattle.blif_text.specs.Statements.{Statement, Model, Inputs, Outputs, Latch, Names, Row, End}
use Rattle.blif_text.specs.declared.circuit.Cell.{Cell}
use Rattle.blif_text.specs.Circuits.{Circuit, CircuitLatch, Table}
use Rattle.blif_text.specs.Plain.{plain_row, plain_table, plain_latch}

pub record Parts : Type 0 where
  pub name : List ℕ
  pub inputs : List (List ℕ)
  pub outputs : List (List ℕ)
  pub latches : List CircuitLatch
  pub tables : List Table
  pub rows : List (List Cell)

abbrev pub no_parts : Parts
no_parts = record { name = []; inputs = []; outputs = []; latches = []; tables = []; rows = [] }

-- one more statement in front
abbrev pub in_front : Statement → Parts → Parts
in_front (Model name) p = record p { name = name; rows = [] }
in_front (Inputs names) p = record p { inputs = names ++ p.inputs; rows = [] }
in_front (Outputs names) p = record p { outputs = names ++ p.outputs; rows = [] }
in_front (Latch source target init) p =
    record p { latches = record { source = source; target = target; init = init } ∷ p.latches; rows = [] }
in_front (Names inputs output) p =
    record p { tables = record { inputs = inputs; output = output; rows = p.rows } ∷ p.tables; rows = [] }
in_front (Row cells) p = record p { rows = cells ∷ p.rows }
in_front End p = record p { rows = [] }

-- statements in front of what the statements after them describe
abbrev pub behind : List Statement → Parts → Parts
behind [] p = p
behind (s ∷ ss) p = in_front s (behind ss p)

abbrev pub parts_circuit : Parts → Circuit
parts_circuit p = record {
  name = p.name;
  inputs = p.inputs;
  outputs = p.outputs;
  latches = p.latches;
  tables = p.tables;
}

-- a draft has its lists from the last element to the first
abbrev pub draft_parts : Draft → Parts
draft_parts d = record {
  name = d.name;
  inputs = reverse d.inputs.items;
  outputs = reverse d.outputs.items;
  latches = reverse (map plain_latch d.latches.items);
  tables = reverse (map plain_table d.tables.items);
  rows = reverse (map plain_row d.rows.items);
}
