use Rattle.est_expand_laws.proofs.InlinedWalks.{inlining-flattens, inlining-limits}
use Rattle.est_expand_laws.proofs.laws.inlining_is_flattening.Goals as goal

pub returns : goal.returns
returns c = record { same = inlining-flattens; limits = inlining-limits }
