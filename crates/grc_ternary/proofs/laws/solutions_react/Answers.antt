use Rattle.grc_ternary.proofs.Acyclic.{solutions_react_lem}
use Rattle.grc_ternary.proofs.laws.solutions_react.Goals as goal

pub returns : goal.returns
returns c = solutions_react_lem
