use Rattle.std.proofs.Common.{Some, sym, ap, slice_index_or}
use Rattle.blif_net.specs.Depths.{joined_depth}
use Rattle.blif_net.specs.Drawings.{depth_at}
use Rattle.blif_net.proofs.DepthLaws.{deepens-as, deepens-none}
use Rattle.blif_net.proofs.gates.either.Goals as goal

pub returns-in-None-clause-deep : goal.returns-in-None-clause-deep
returns-in-None-clause-deep c =
    let first = c.args.first in
    let gates = c.args.gates.now.items in
    deepens-as first gates gates (Some c.args.net) (depth_at (Some c.args.net)) _
    (λ depths. ap (λ o. joined_depth (depth_at o depths) (slice_index_or depths c.args.net.0 0)) (sym c.in-None.is))
    (deepens-none first gates (Some c.args.net))
