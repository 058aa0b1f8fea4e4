use Rattle.grc_graph.proofs.ResidualCodes.{residual_has_resumed_codes_lem}
use Rattle.grc_graph.proofs.laws.residual_has_resumed_codes.Goals as goal

pub returns : goal.returns
returns c = residual_has_resumed_codes_lem
