use Rattle.std.proofs.Common.{arith, ◌∙◌}
use Rattle.std.proofs.lemmas.List.{get_or_read, length-set}
use Rattle.grc_graph.specs.WireOrders.{edge_at}
use Rattle.grc_order.proofs.Starting.{arrivals-more, arrivals-bound}
use Rattle.grc_order.proofs.schedule.arrival_counts.Goals as goal

pub loop-edge-preserved : goal.loop-edge-preserved
loop-edge-preserved c =
    let inv = c.loop-edge.invariant in
    let pairs = c.args.edges.now.pairs.items in
    let k = c.loop-edge.edge-index in
    let joins = c.args.edges.now.are_edges.join k (record { 0 = 0 }, record { 0 = 0 }) (omega arith) in
    let read = rw c.deref-edge-items.ensures.value at c.index_mut.ensures.value in
    rw c.deref-edge-items.ensures.value (record {
      each = length-set _ _ _ ∙ inv.each;
      counts = λ w h. arrivals-more pairs c.loop-edge.counts.items k _ (omega arith) (omega (arith, joins.1, inv.each))
          (get_or_read c.loop-edge.counts.items (edge_at pairs k).1.0 _ (omega (arith, joins.1, inv.each)) read 0) w (inv.counts w h);
    })

pub index_mut-requires : goal.index_mut-requires
index_mut-requires c =
    let inv = c.loop-edge.invariant in
    let joins = c.args.edges.now.are_edges.join c.loop-edge.edge-index (record { 0 = 0 }, record { 0 = 0 }) (omega arith) in
    rw c.deref-edge-items.ensures.value (omega (arith, joins.1, inv.each))

pub overflow_add-index_mut : goal.overflow_add-index_mut
overflow_add-index_mut c =
    let inv = c.loop-edge.invariant in
    let pairs = c.args.edges.now.pairs.items in
    let k = c.loop-edge.edge-index in
    let joins = c.args.edges.now.are_edges.join k (record { 0 = 0 }, record { 0 = 0 }) (omega arith) in
    let read = rw c.deref-edge-items.ensures.value at c.index_mut.ensures.value in
    let is = get_or_read c.loop-edge.counts.items (edge_at pairs k).1.0 _ (omega (arith, joins.1, inv.each)) read 0 in
    omega (arith, is, inv.counts (edge_at pairs k).1.0 joins.1, arrivals-bound pairs k (edge_at pairs k).1.0 (omega arith))
