use Rattle.grc_graph.proofs.ResumedPauses.{leaves_are_resumed_pauses_lem}
use Rattle.grc_graph.proofs.laws.leaves_are_resumed_pauses.Goals as goal

pub returns : goal.returns
returns c = leaves_are_resumed_pauses_lem
