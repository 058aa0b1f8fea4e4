-- Inner: the fields of a machine.
use Rattle.std.specs.Prelude.{◌≡◌, ◌≤◌, length, take}
use Rattle.csub_guard.specs.Names.{declared}
use Rattle.csub_guard.specs.Views.{program_of}
use Rattle.csub_guard_run.specs.declared.runner.GuardedRunner.TheInside.{Inside}
use Rattle.csub_guard_run.specs.Plans.{IsPlan}
use Rattle.csub_guard_run.specs.Runners.{Runner, KeepsNames, outputs_shown}
use Rattle.csub_guard_run.specs.Showing.{Counter}
use Rattle.csub_guard_run.specs.Totals.{worth_of, HasRoom}

-- the values of the declared variables, which have the first slots
abbrev pub runner_of : Inside → Runner
runner_of r = record {
  code = r.program;
  values = take (length (declared (program_of r.program))) r.values.items;
  count = r.count;
}

abbrev pub counter_of : Inside → Counter
counter_of r = record { calls = runner_of r; total = worth_of r.total }

-- The plan is the program's, each slot has a value, the outputs are those of the memory, and the sum is one of its two
-- parts.
pub record KeepsPlan (r : Inside) : Type 0 where
  pub names_fit : KeepsNames (program_of r.program)
  pub plan : IsPlan (program_of r.program) r.plan
  pub each_slot : r.plan.track.gates.slots ≤ length r.values.items
  pub shown : r.outputs.items ≡ outputs_shown (runner_of r)
  pub room : HasRoom r.total
