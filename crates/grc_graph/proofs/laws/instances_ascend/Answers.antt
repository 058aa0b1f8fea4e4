use Rattle.grc_graph.proofs.LiveInstances.{instances_ascend_lem}
use Rattle.grc_graph.proofs.laws.instances_ascend.Goals as goal

pub returns : goal.returns
returns c = instances_ascend_lem
