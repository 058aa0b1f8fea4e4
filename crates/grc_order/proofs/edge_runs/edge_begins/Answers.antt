use Rattle.std.proofs.Common.{◌≡◌, ◌+◌, length, subst, arith}
use Rattle.grc_order.proofs.RunLaws.{BeginsUpto, begins-none, begins-more, begins-all, begin_below, all-below, splits-at, beginnings_rise}
use Rattle.grc_order.proofs.edge_runs.edge_begins.Goals as goal

pub loop-wire-init : goal.loop-wire-init
loop-wire-init c = record {
  upto = rw c.new-begins.ensures.items (begins-none c.args.edges.now.pairs.items);
  bound = omega arith;
  below = λ i h. absurd (omega arith);
}

pub begin_behind-begin-requires : goal.begin_behind-begin-requires
begin_behind-begin-requires c = rw c.as_slice-pairs.ensures.value (record {
  rise = beginnings_rise _ _ c.args.edges.now.are_edges;
  within = c.loop-wire.invariant.bound;
  below = c.loop-wire.invariant.below;
})

pub loop-wire-preserved : goal.loop-wire-preserved
loop-wire-preserved c =
    let pairs = c.args.edges.now.pairs.items in
    let bound = rw c.as_slice-pairs.ensures.value at c.begin_behind-begin.ensures.bound in
    let point = rw c.as_slice-pairs.ensures.value at c.begin_behind-begin.ensures.point in
    rw c.in_ok-push.ensures.items (record {
      upto = begins-more pairs c.loop-wire.begins.items c.loop-wire.wire _ c.loop-wire.invariant.upto bound point;
      bound = bound;
      below = begin_below c.loop-wire.wire (c.loop-wire.wire + 1) pairs _ point (omega arith);
    })

pub returns : goal.returns
returns c =
    let edges = c.args.edges.now in
    let pairs = edges.pairs.items in
    let all : c.loop-wire.wire ≡ edges.count = omega arith in
    let upto = subst (λ n. BeginsUpto pairs c.loop-wire.begins.items n) all c.loop-wire.invariant.upto in
    let point = splits-at edges.count pairs (length pairs) (beginnings_rise _ _ edges.are_edges) (omega arith)
    (all-below edges.count pairs edges.are_edges) (λ low. absurd (omega arith)) in
    rw (c.in_ok-push-2.ensures.items, c.as_slice-pairs.ensures.value)
    (begins-all edges.count pairs _ (begins-more pairs c.loop-wire.begins.items edges.count (length pairs) upto (omega arith) point))
