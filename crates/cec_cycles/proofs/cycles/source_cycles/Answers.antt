use Rattle.std.proofs.Common.{subst}
use Rattle.grc_cycles.specs.CycleCounts.{HasCycleCounts}
use Rattle.cec_cycles.proofs.cycles.source_cycles.Goals as goal

pub returns-clause-counts : goal.returns-clause-counts
returns-clause-counts c =
    let s = c.in_ok-graph.ensures.built in
    let counts = c.in_ok-counts.counts in
    record {
      program = s.program;
      source = s.source;
      counts = subst (λ p. HasCycleCounts p counts.components counts.cuts) s.built.graph.program c.in_ok-counts.ensures;
    }
