use Rattle.grc_share.proofs.NextFormulas.{not-start}
use Rattle.grc_share.proofs.next.is_other_start.Goals as goal

pub returns-in_default : goal.returns-in_default
returns-in_default c = λ K insts names tell. not-start K insts names c.args.formula.now c.in_default.not-And
