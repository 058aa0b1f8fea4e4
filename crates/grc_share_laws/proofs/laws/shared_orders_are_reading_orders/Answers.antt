use Rattle.grc_share_laws.proofs.SharedRanks.{shared_orders_are_reading_orders_lem}
use Rattle.grc_share_laws.proofs.laws.shared_orders_are_reading_orders.Goals as goal

pub returns : goal.returns
returns c = shared_orders_are_reading_orders_lem c.edges_join_wires.ensures
