use Rattle.std.proofs.Common.{◌≡◌, ◌+◌, length, ap, ◌∙◌, arith}
use Rattle.net_ir.specs.Runs.{netlist_of}
use Rattle.net_pair.specs.Layout.{moved}
use Rattle.net_pair.proofs.Differences.{length-pairs}
use Rattle.net_pair.proofs.assembling.pair_gates.Goals as goal

pub push_comparisons-requires : goal.push_comparisons-requires
push_comparisons-requires c =
    let a = netlist_of c.args.left.now in
    let b = netlist_of c.args.right.now in
    let f = moved c.shifts_of-shifts.result.left in
    let g = moved c.shifts_of-shifts.result.right in
    let count : length c.deref-3.result.now ≡ length a.outputs + 1 =
    ap length (c.deref-3.ensures.value ∙ c.in_ok-pairs.ensures) ∙ length-pairs f g a b c.requires.outputs in
    omega arith
