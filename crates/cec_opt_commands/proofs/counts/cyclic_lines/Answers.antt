use Rattle.cec_opt_commands.proofs.counts.cyclic_lines.Goals as goal

pub returns-clause-lines : goal.returns-clause-lines
returns-clause-lines c = record {
  components = c.in_ok-counts.counts.components;
  cuts = c.in_ok-counts.counts.cuts;
  counted = c.in_ok-counts.ensures.counts;
  is = c.in_ok-lines.ensures;
}
