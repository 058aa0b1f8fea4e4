use Rattle.grc_graph.proofs.LiveInstances.{enclosing_are_live_lem}
use Rattle.grc_graph.proofs.laws.enclosing_instances_are_live.Goals as goal

pub returns : goal.returns
returns c = enclosing_are_live_lem
