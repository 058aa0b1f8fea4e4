use Rattle.std.proofs.Common.{◌∙◌}
use Rattle.est_kernel.proofs.Exports.{trees_are_kernels_lem}
use Rattle.grc_ternary_run.proofs.Programs.{keeps-fresh}
use Rattle.grc_ternary_run.specs.States.{runner_with}
use Rattle.grc_ternary_run.proofs.runner.TriRunner.new.Goals as goal

pub invariant_of-result : goal.invariant_of-result
invariant_of-result c =
    let g = c.args.graph.now in
    let kernel = trees_are_kernels_lem g.program.body in
    record {
      reads = c.in_ok-system.ensures;
      keeps = c.in_ok-state.ensures.keeps;
      program = keeps-fresh (runner_with g c.in_ok-state.state) c.in_ok-state.ensures.fresh g.laid_out.formed kernel c.requires.no_loop c.requires.graph;
    }

pub returns-clause-places : goal.returns-clause-places
returns-clause-places c = record {
  outputs = c.in_ok-state.ensures.keeps.outputs ∙ c.in_ok-words.ensures.words.one_per_output;
  unknown = c.in_ok-state.ensures.keeps.unknown;
}
