use Rattle.std.proofs.Common.{arith, refl}
use Rattle.std.proofs.lemmas.Bool.{false≢true}
use Rattle.std.proofs.lemmas.List.{take_more, take_all}
use Rattle.grc_order.proofs.CheckLaws.{IsChecked-none, IsChecked-more, IsWireOrder-checked, seen_again, leads_back, unmarked_from}
use Rattle.grc_order.proofs.checking.is_order.Goals as goal
use Rattle.grc_order.proofs.checking.is_order.Goals.{then-wire-edges-via-then-wire-edges, then-wire-edges-via-else-wire-edges+then-marks-wire}

pub loop-wire-init : goal.loop-wire-init
loop-wire-init c = IsChecked-none _ _ _ (omega arith) (λ k h. c.loop-mark.invariant k (omega arith))

pub returns-then-wire-edges : goal.returns-then-wire-edges
returns-then-wire-edges c = (
  λ e. absurd (false≢true e),
  λ order. elim c.then-wire-edges.branch [
    | then-wire-edges-via-then-wire-edges w ↦ let low = order.in_range c.loop-wire.wire-index (record { 0 = 0 }) c.loop-wire-test.true in absurd (omega arith)
    | then-wire-edges-via-else-wire-edges+then-marks-wire w ↦ absurd
        (seen_again _ _ _ _ _ order c.loop-wire-test.true c.loop-wire.invariant w.if-marks-wire.true)
  ],
)

pub returns-then-leads_to_marked : goal.returns-then-leads_to_marked
returns-then-leads_to_marked c = (
  λ e. absurd (false≢true e),
  λ order. absurd (leads_back _ _ _ _ _ c.args.edges.now.are_edges order c.loop-wire-test.true c.loop-wire.invariant
      (c.if-leads_to_marked.ensures.0 refl)),
)

pub loop-wire-preserved : goal.loop-wire-preserved
loop-wire-preserved c =
    let list = c.args.list.now in
    let k = c.loop-wire.wire-index in
    let more = take_more list k (record { 0 = 0 }) c.loop-wire-test.true in
    rw more (IsChecked-more _ _ _ _ _ c.loop-wire.invariant c.if-wire-edges.false c.if-marks-wire.false
    (unmarked_from _ _ (λ found. false≢true (c.if-leads_to_marked.ensures.1 found))))

pub returns : goal.returns
returns c =
    let all = take_all c.loop-wire.wire-index c.args.list.now (omega arith) in
    (λ e. IsWireOrder-checked _ _ _ _ (rw all at c.loop-wire.invariant) (omega arith), λ order. refl)
