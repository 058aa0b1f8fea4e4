-- Inner: the fields of a runner.
use Rattle.std.specs.Prelude.{◌≡◌, length}
use Rattle.blif_text.specs.Plain.{plain_circuit}
use Rattle.blif_text.specs.Runs.{circuit_latches}
use Rattle.blif_run.specs.declared.runner.BlifRunner.TheInside.{Inside}
use Rattle.blif_run.specs.Loops.{IsDescribed}
use Rattle.blif_run.specs.Plans.{IsPlan}
use Rattle.blif_run.specs.Runners.{Runner}

abbrev pub runner_of : Inside → Runner
runner_of r = record {
  circuit = plain_circuit r.blif;
  latches = r.registers.registers;
  outputs = r.registers.outputs;
}

-- some text describes the circuit, and the registers are its latches, with a plan of its reactions and a value for
-- each output
pub record KeepsPlan (r : Inside) : Type 0 where
  pub described : IsDescribed (plain_circuit r.blif)
  pub plan : IsPlan (plain_circuit r.blif) r.registers.plan r.registers.sources r.registers.shown
  pub inputs_are : r.registers.inputs ≡ length r.blif.inputs.items
  pub initial_is : r.registers.initial ≡ circuit_latches (plain_circuit r.blif)
  pub each_output : length r.registers.outputs ≡ length r.blif.outputs.items
