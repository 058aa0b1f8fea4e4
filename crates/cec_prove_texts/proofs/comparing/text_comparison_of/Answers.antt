use Rattle.net_ir.specs.Runs.{netlist_of}
use Rattle.cec_prove_texts.proofs.TextCircuits.{text-comparison}
use Rattle.cec_prove_texts.proofs.comparing.text_comparison_of.Goals as goal

pub returns-clause-compares : goal.returns-clause-compares
returns-clause-compares c =
    let left = c.in_ok-left in
    let right = c.in_ok-right in
    text-comparison c.args.first.now c.args.second.now (netlist_of left.left) (netlist_of right.right) c.in_ok-comparison.comparison left.left.is_net
    right.right.is_net left.ensures.net right.ensures.net c.in_ok-comparison.ensures
