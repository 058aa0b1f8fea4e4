use Rattle.std.proofs.Common.{◌∙◌}
use Rattle.grc_ternary_run.proofs.Programs.{keeps-fresh}
use Rattle.grc_ternary_run.proofs.runner.TriRunner.reset.Goals as goal

pub invariant_of-self : goal.invariant_of-self
invariant_of-self c =
    let old = c.self.invariant.program in
    record {
      reads = c.self.invariant.reads;
      keeps = c.reset.ensures.keeps;
      program = keeps-fresh _ c.reset.ensures.fresh old.formed old.kernel old.no_loop old.graph;
    }

pub returns-clause-places : goal.returns-clause-places
returns-clause-places c = record {
  outputs = c.reset.ensures.keeps.outputs ∙ c.self.invariant.reads.words.one_per_output;
  unknown = c.reset.ensures.keeps.unknown;
}
