-- Contract: what a runner of a circuit is from event to event.
use Rattle.std.specs.Prelude.{◌≡◌, ℕ, Bool, false, List, length, map, replicate}
use Rattle.blif_text.specs.Circuits.{Circuit}
use Rattle.blif_text.specs.Runs.{IsInstant, circuit_latches, driven_names}

-- a runner: its circuit, the values of the latches in the next instant, and those of the outputs in the last one
pub record Runner : Type 0 where
  pub circuit : Circuit
  pub latches : List Bool
  pub outputs : List Bool

-- before the first event and after a reset each latch has its initial value, and every output is false
pub record IsFresh (r : Runner) : Type 0 where
  pub latches_initial : r.latches ≡ circuit_latches r.circuit
  pub outputs_false : r.outputs ≡ replicate (length r.circuit.outputs) false

-- One reaction: there is a valuation that meets the tables at the latches' values and the inputs, and no other on the
-- driven names. The outputs have its values, and each latch gets the value of its source.
pub record Reacts (old : Runner) (inputs : List Bool) (new : Runner) : Type 0 where
  pub same : new.circuit ≡ old.circuit
  pub valuation : List ℕ → Bool
  pub instant : IsInstant old.circuit old.latches inputs valuation
  pub only : (v : List ℕ → Bool) → IsInstant old.circuit old.latches inputs v
      → map v (driven_names old.circuit) ≡ map valuation (driven_names old.circuit)
  pub outputs : new.outputs ≡ map valuation old.circuit.outputs
  pub latches : new.latches ≡ map (λ l. valuation l.source) old.circuit.latches

-- a reset puts the runner back to its beginning
pub record Resets (old new : Runner) : Type 0 where
  pub same : new.circuit ≡ old.circuit
  pub fresh : IsFresh new
