use Rattle.std.proofs.Common.{arith}
use Rattle.est_kernel.proofs.Exports.{trees_are_kernels_lem}
use Rattle.grc_formulas.proofs.RowCounts.{rows-small}
use Rattle.grc_formulas.proofs.Whole.{words-are, rows-few}
use Rattle.grc_formulas.proofs.assembly.words_over.Goals as goal

pub invariant_of-result : goal.invariant_of-result
invariant_of-result c = record {
  few = omega (arith, rows-few c.args.graph.now _ _ c.in_ok-made.ensures, rows-small c.args.graph.now);
}

pub returns : goal.returns
returns c =
    let g = c.args.graph.now in
    let are = c.in_ok-made.ensures in
    record {
      words = words-are g _ (record {
        kernel = trees_are_kernels_lem g.program.body;
        early_rows = are.early_rows;
        late_rows = are.late_rows;
        early = are.early;
        selected = are.selected;
        holdings = are.holdings;
        paused = are.paused;
        ends = c.in_ok-found.ensures.ends;
        outputs = c.in_ok-found.ensures.outputs;
      });
      size = rows-few g _ _ are;
    }
