use Rattle.csub_embed.specs.Names.{is_reserved}
use Rattle.csub_embed.proofs.words.is_reserved.Goals as goal

pub returns : goal.returns
unfolding is_reserved
returns c = c.is_one_of.ensures
