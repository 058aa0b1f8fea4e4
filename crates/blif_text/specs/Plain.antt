-- Contract: the circuit that a `Blif` value is, without where it lies in memory.
use Rattle.std.specs.Prelude.{List, map}
use Rattle.blif_text.specs.declared.circuit.Cell.{Cell}
use Rattle.blif_text.specs.declared.circuit.Row.{Row}
use Rattle.blif_text.specs.declared.circuit.Table.{Table}
use Rattle.blif_text.specs.declared.circuit.BlifLatch.{BlifLatch}
use Rattle.blif_text.specs.declared.circuit.Blif.{Blif}
use Rattle.blif_text.specs.Circuits.{Circuit, CircuitLatch}
use Rattle.blif_text.specs.Circuits as circuits

abbrev pub plain_row : Row → List Cell
plain_row row = row.cells.items

abbrev pub plain_table : Table → circuits.Table
plain_table table = record {
  inputs = table.inputs.items;
  output = table.output;
  rows = map plain_row table.rows.items;
}

abbrev pub plain_latch : BlifLatch → CircuitLatch
plain_latch latch = record { source = latch.from; target = latch.to; init = latch.init }

abbrev pub plain_circuit : Blif → Circuit
plain_circuit blif = record {
  name = blif.name;
  inputs = blif.inputs.items;
  outputs = blif.outputs.items;
  latches = map plain_latch blif.latches.items;
  tables = map plain_table blif.tables.items;
}
