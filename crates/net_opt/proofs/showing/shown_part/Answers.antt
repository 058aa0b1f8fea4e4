use Rattle.std.proofs.Common.{◌∙◌, sym, ap, subst, length, IsTrue, arith}
use Rattle.net_ir.specs.Netlists.{net_count}
use Rattle.net_ir.specs.Runs.{netlist_of}
use Rattle.net_opt.specs.Showing.{marked}
use Rattle.net_opt.proofs.Kept.{rank-smaller}
use Rattle.net_opt.proofs.showing.shown_part.Goals as goal

pub returns-then-are_marked-clause-whole : goal.returns-then-are_marked-clause-whole
returns-then-are_marked-clause-whole c = λ P closed n low high.
    let inputs = c.len-inputs.ensures ∙ c.args.net.now.inputs.ok.0 in
    let count = ap length c.deref.ensures.value ∙ c.in_ok-marks.ensures.count in
    c.in_ok-marks.ensures.shown P closed n
    (subst (λ ms. IsTrue (marked ms n)) c.deref.ensures.value
    (c.are_marked.ensures.all c.if-are_marked.true n (omega (arith, low, inputs)) (omega (arith, high, count))))

pub returns-clause-part : goal.returns-clause-part
returns-clause-part c =
    let net = netlist_of c.args.net.now in
    let count = ap length c.deref.ensures.value ∙ c.in_ok-marks.ensures.count in
    let one = c.are_marked.ensures.one c.if-are_marked.false in
    let n = one.0 in
    let high = one.2 in
    let off = ap (λ ms. marked ms n) c.deref-2.ensures.value ∙ c.mark_first.ensures.others n one.1 ∙ sym (ap (λ ms. marked ms n) c.deref.ensures.value)
    ∙ one.3 in
    let fewer = rank-smaller c.deref-2.result.now n (net_count net) (omega (arith, high, count)) off in
    record {
      optimizes = c.in_ok-kept_net.ensures.optimizes;
      smaller = omega (arith, fewer, c.in_ok-kept_net.ensures.count);
    }
