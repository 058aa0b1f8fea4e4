use Rattle.grc_dep.proofs.Founds.{nothing_found}
use Rattle.grc_dep.proofs.linking.push_edge_if.Goals as goal

pub returns : goal.returns
returns c = nothing_found _ _ c.args.holds _ c.if-holds.false
