use Rattle.std.proofs.Common.{◌≡◌, ℕ, ◌<◌, false, slice_index_or}
use Rattle.grc_graph.specs.WireOrders.{edge_at}
use Rattle.grc_order.specs.Schedules.{edges_from}
use Rattle.grc_order.proofs.checking.leads_to_marked.Given as goal

abbrev pub invariant-loop-edge : goal.invariant-loop-edge
invariant-loop-edge l =
    (k : ℕ) → k < l.edge-index → slice_index_or l.marks (edge_at (edges_from l.fn.wire.0 l.edges.pairs.items) k).1.0 false ≡ false
