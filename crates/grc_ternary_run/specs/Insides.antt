-- Inner: the fields of a runner.
use Rattle.grc_ternary_run.specs.declared.runner.TriRunner.TheInside.{Inside}
use Rattle.grc_ternary_run.specs.Runners.{Runner}
use Rattle.grc_ternary_run.specs.States.{KeepsProgram, KeepsState, ReadsGraph, runner_with}

abbrev pub runner_of : Inside → Runner
runner_of r = runner_with r.graph.now r.state

pub record KeepsRunner (r : Inside) : Type 0 where
  pub reads : ReadsGraph r.graph.now r.words r.system
  pub keeps : KeepsState r.graph.now r.words r.system r.state
  pub program : KeepsProgram (runner_of r)
