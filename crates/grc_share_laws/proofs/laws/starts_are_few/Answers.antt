use Rattle.grc_share.proofs.Exports.{few-starts}
use Rattle.grc_share_laws.proofs.laws.starts_are_few.Goals as goal

pub returns : goal.returns
returns c p n kernel l = few-starts p n kernel l
