use Rattle.est_front.proofs.Exports.{flattens-flat}
use Rattle.cec_prove_covers.proofs.sources.source_flat.Goals as goal

pub returns-clause-flat : goal.returns-clause-flat
returns-clause-flat c = flattens-flat _ _ _ c.in_ok-flat.ensures.flat
