-- To believe: the circuit of a BLIF text as a device under test.
use Rattle.std.specs.Prelude.{◌≡◌, ℕ, List, [], map, All, IsTrue, Ok}
use Rattle.base_types.specs.Names.{is_name}
use Rattle.base_machines.specs.Machines as machines
use Rattle.blif_text.specs.Circuits.{Circuit, reading}
use Rattle.blif_text.specs.Runs.{circuit_machine}
use Rattle.cec_opt_texts.specs.Alike.{HasOutputs}
use Rattle.cec_prove_sources.specs.Devices.{Device}

-- A circuit, whose outputs have these names, is a device without relations. It shows rows where its machine has a run
-- over the items, and the outputs have these values in each run.
abbrev pub circuit_device : Circuit → (names : List (List ℕ)) → Device
circuit_device c names = record {
  inputs = c.inputs;
  outputs = names;
  relations = [];
  Shows = λ items rows. machines.Shows (circuit_machine c) (λ v. map v c.outputs) (circuit_machine c).start items rows;
}

-- A text describes a circuit. Its outputs have these names, each a letter and then letters, digits and `_`, and after
-- them comes `_paused`. A name that an input has too is written with `.out` in the text.
pub record DescribesNamed (text : List ℕ) (circuit : Circuit) (names : List (List ℕ)) : Type 0 where
  pub reads : reading text ≡ Ok circuit
  pub named : HasOutputs circuit names
  pub fit : All (λ name. IsTrue (is_name name)) names
