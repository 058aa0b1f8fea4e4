use Rattle.grc_ternary.proofs.KnownWires.{acyclic_known_lem}
use Rattle.grc_ternary.proofs.laws.acyclic_solutions_are_known.Goals as goal

pub returns : goal.returns
returns c = acyclic_known_lem
