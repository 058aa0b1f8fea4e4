-- To believe: what the netlist of a circuit is.
use Rattle.std.specs.Prelude.{◌≡◌, ℕ, Bool, List, [], ◌∷◌, ◌++◌, length, map}
use Rattle.base_machines.specs.Machines.{Follows}
use Rattle.net_ir.specs.Gates.{carried}
use Rattle.net_ir.specs.Netlists.{Netlist}
use Rattle.net_ir.specs.Runs.{net_machine, shown}
use Rattle.blif_text.specs.Circuits.{Circuit}
use Rattle.blif_text.specs.Runs.{circuit_machine}
use Rattle.blif_text.specs.Written.{output_words}
use Rattle.blif_net.specs.Depths.{HasDepth, depth_of}
use Rattle.blif_net.specs.Sizes.{gates_of}

-- an event has one value for each input
abbrev pub FitsCircuit : Circuit → List Bool → Type 0
FitsCircuit circuit event = length event ≡ length circuit.inputs

-- in an instant the outputs of the circuit have the values that the net shows, and the last one that of `paused`
abbrev pub ShowsCircuit : Netlist → Circuit → List Bool → (List ℕ → Bool) → Type 0
ShowsCircuit net circuit values v =
    map v circuit.outputs ≡ (shown net values).outputs ++ (shown net values).paused ∷ []

-- the latches have the same values, in their order, one each
pub record SameLatches (circuit : Circuit) (latches kept : List Bool) : Type 0 where
  pub same : latches ≡ kept
  pub each_latch : length latches ≡ length circuit.latches

-- A netlist is that of a circuit. It has the circuit's name and inputs, and its outputs have the words of the circuit's
-- outputs, each in their order; no gate carries a wire, and the tables say how many there are and how deep. From the
-- same values of the latches on, in their order, the circuit follows it: both have an instant on each event, in any two
-- the same is shown, and after them the latches have the same values again, as at the start.
pub record IsNetOf (circuit : Circuit) (net : Netlist) : Type 0 where
  pub name : net.name ≡ circuit.name
  pub inputs : net.inputs ≡ circuit.inputs
  pub outputs : output_words net ≡ circuit.outputs
  pub silent : carried net.gates ≡ []
  pub gates : length net.gates ≡ gates_of circuit
  pub deep : HasDepth circuit (depth_of net)
  pub follows : Follows (net_machine net) (circuit_machine circuit) (FitsCircuit circuit) (ShowsCircuit net circuit)
      (SameLatches circuit)
