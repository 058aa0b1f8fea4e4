use Rattle.std.proofs.Common.{◌+◌, ◌<◌, ◌≤◌, ◌∙◌, false, ap, subst, length, sym, IsTrue, All, arith}
use Rattle.std.proofs.lemmas.List.{length-replicate, take_all}
use Rattle.base_types.specs.declared.indices.NetId.{NetId}
use Rattle.net_ir.specs.declared.netlist.NetOut.{NetOut}
use Rattle.net_ir.specs.Netlists.{net_count}
use Rattle.net_ir.specs.Runs.{netlist_of}
use Rattle.net_opt.specs.Showing.{marked}
use Rattle.net_opt.proofs.Reaching.{follow-none, follow-more, follow-next, follow-closes, outputs-more}
use Rattle.net_opt.proofs.Reading.{none-are}
use Rattle.net_opt.proofs.showing.shown_marks.Goals as goal
use Rattle.net_opt.proofs.showing.shown_marks.Goals.{else-loop-step-test, then-loop-step-test+then-step-len}

pub loop-output-init : goal.loop-output-init
loop-output-init c =
    let net = c.args.net.now in
    let count = c.len.result + c.len-2.result + c.len-3.result in
    let a = c.len.ensures ∙ net.inputs.ok.0 in
    let b = c.len-2.ensures ∙ net.latches.ok.0 in
    let d = c.len-3.ensures ∙ net.gates.ok.0 in
    let wide = ap length c.in_ok-marks.ensures ∙ length-replicate count false in
    record {
      count = c.in_ok-reach.ensures.grows.count ∙ omega (arith, a, b, d, wide);
      are = λ P closed. c.in_ok-reach.ensures.shown P closed.paused
          (none-are P count c.in_ok-marks.marks.items c.new-found.result.items c.in_ok-marks.ensures c.new-found.ensures.items);
      follow = follow-more (netlist_of net) _ _ _ _
          (follow-none (netlist_of net) count c.in_ok-marks.marks.items c.new-found.result.items c.in_ok-marks.ensures) c.in_ok-reach.ensures.grows;
      paused = c.in_ok-reach.ensures.marked;
      outputs = λ k d low. absurd (omega arith);
    }

pub reach-requires-in-loop-output : goal.reach-requires-in-loop-output
reach-requires-in-loop-output c =
    let net = netlist_of c.args.net.now in
    let outs = subst (λ os. All (λ (o : NetOut). o.net.0 < net_count net) os) (sym c.deref-output-items.ensures.value)
    c.args.net.now.is_net.outputs_in_range in
    let here = subst (λ (o : NetOut). o.net.0 < net_count net) (sym c.output-item.is)
    (outs c.loop-output.output-index c.output-item.result (omega (arith, c.loop-output-test.true))) in
    omega (arith, here, c.loop-output.invariant.count)

pub loop-output-preserved : goal.loop-output-preserved
loop-output-preserved c =
    let inv = c.loop-output.invariant in
    let grows = c.in_ok-reach-2.ensures.grows in
    record {
      count = grows.count ∙ inv.count;
      are = λ P closed.
          let outs = subst (λ os. All (λ (o : NetOut). IsTrue (P o.net.0)) os) (sym c.deref-output-items.ensures.value) closed.outputs in
          let here = subst (λ (o : NetOut). IsTrue (P o.net.0)) (sym c.output-item.is)
          (outs c.loop-output.output-index c.output-item.result (omega (arith, c.loop-output-test.true))) in
          c.in_ok-reach-2.ensures.shown P here (inv.are P closed);
      follow = follow-more (netlist_of c.args.net.now) _ _ _ _ inv.follow grows;
      paused = grows.stays c.args.net.now.paused.0 inv.paused;
      outputs = outputs-more _ _ c.deref-output-items.result.now c.loop-output.output-index c.output-item.result grows.stays inv.outputs
          (omega (arith, c.loop-output-test.true)) c.output-item.is c.in_ok-reach-2.ensures.marked;
    }

pub loop-step-init : goal.loop-step-init
loop-step-init c =
    let inv = c.loop-output.invariant in
    let all = take_all c.loop-output.output-index c.deref-output-items.result.now (omega arith) in
    record {
      count = inv.count;
      are = inv.are;
      follow = inv.follow;
      paused = inv.paused;
      outputs = subst (λ os. All (λ (o : NetOut). IsTrue (marked c.loop-output.marks.items o.net.0)) os) (all ∙ c.deref-output-items.ensures.value) inv.outputs;
    }

pub loop-step-preserved : goal.loop-step-preserved
loop-step-preserved c =
    let count = c.len-in-loop-step.ensures ∙ c.loop-step.found.ok.0 in
    let inv = c.loop-step.invariant in
    let grows = c.in_ok-reach_read.ensures.grows in
    record {
      count = grows.count ∙ inv.count;
      are = λ P closed.
          let all = inv.are P closed in
          let here = subst (λ (m : NetId). IsTrue (P m.0)) (sym c.index-next.ensures)
          (all.each_found c.loop-step.step c.index-next.result.now (omega (arith, count, c.if-step-len.false))) in
          c.in_ok-reach_read.ensures.shown P closed here all;
      follow = follow-next (netlist_of c.args.net.now) _ _ _ _ c.loop-step.step c.index-next.result.now inv.follow grows
          (omega (arith, count, c.if-step-len.false)) c.index-next.ensures c.in_ok-reach_read.ensures.read;
      paused = grows.stays c.args.net.now.paused.0 inv.paused;
      outputs = λ k d low. grows.stays _ (inv.outputs k d low);
    }

pub returns-clause-shown : goal.returns-clause-shown
returns-clause-shown c = λ P closed n on. (c.loop-step.invariant.are P closed).each_mark n on

pub returns-clause-closed : goal.returns-clause-closed
returns-clause-closed c =
    let inv = c.loop-step.invariant in
    let none : length c.loop-step.found.items ≤ c.loop-step.step = elim c.loop-step-test.branch [
      | else-loop-step-test w ↦ omega (arith, w.loop-step-test.false, c.loop-step.found.ok.0, c.loop-step.found.small)
      | then-loop-step-test+then-step-len w ↦ omega (arith, w.if-step-len.true, w.len-in-loop-step.ensures ∙ c.loop-step.found.ok.0)
    ] in
    follow-closes (netlist_of c.args.net.now) c.loop-step.marks.items c.loop-step.found.items c.loop-step.step inv.follow none inv.paused inv.outputs
