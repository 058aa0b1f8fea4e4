-- Inner: the fields of a machine.
use Rattle.std.specs.Prelude.{◌≡◌, length, take}
use Rattle.csub_text.specs.Views.{program_of}
use Rattle.csub_text.specs.Names.{declared}
use Rattle.csub_run.specs.declared.runner.CRunner.TheInside.{Inside}
use Rattle.csub_run.specs.Runners.{Runner, KeepsNames, outputs_shown}
use Rattle.csub_run.specs.Plans.{IsPlan}

-- the values of the declared variables, which have the first slots
abbrev pub runner_of : Inside → Runner
runner_of r = record {
  code = r.program;
  values = take (length (declared (program_of r.program))) r.values.items;
}

-- the plan is the program's, each slot has a value, and the outputs are those of the memory
pub record KeepsPlan (r : Inside) : Type 0 where
  pub names_fit : KeepsNames (program_of r.program)
  pub plan : IsPlan (program_of r.program) r.plan
  pub each_slot : length r.values.items ≡ r.plan.body.slots
  pub shown : r.outputs.items ≡ outputs_shown (runner_of r)
