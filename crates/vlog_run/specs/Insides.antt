-- Inner: the fields of a runner.
use Rattle.std.specs.Prelude.{◌≡◌, length}
use Rattle.vlog_text.specs.Machine.{given_inputs, initial_registers}
use Rattle.vlog_text.specs.Views.{module_of}
use Rattle.vlog_run.specs.Loops.{IsDescribed}
use Rattle.vlog_run.specs.Plans.{IsPlan}
use Rattle.vlog_run.specs.Runners.{Runner}
use Rattle.vlog_run.specs.declared.runner.VlogRunner.TheInside.{Inside}

abbrev pub runner_of : Inside → Runner
runner_of r = record {
  code = r.design;
  registers = r.registers.registers;
  outputs = r.registers.outputs;
}

-- some text describes the module, and the registers are its own, with a plan of its reactions and a value for each
-- output
pub record KeepsPlan (r : Inside) : Type 0 where
  pub described : IsDescribed (module_of r.design)
  pub plan : IsPlan (module_of r.design) r.registers.plan r.registers.sources r.registers.shown
  pub inputs_are : r.registers.inputs ≡ length (given_inputs (module_of r.design))
  pub initial_is : r.registers.initial ≡ initial_registers (module_of r.design)
  pub each_output : length r.registers.outputs ≡ length r.design.outputs.items
