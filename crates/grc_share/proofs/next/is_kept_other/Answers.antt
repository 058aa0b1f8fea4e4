use Rattle.grc_share.proofs.NextFormulas.{not-kept}
use Rattle.grc_share.proofs.next.is_kept_other.Goals as goal

pub returns-in_default : goal.returns-in_default
returns-in_default c = λ K insts names tell. not-kept K insts names c.args.formula.now c.in_default.not-Kept
