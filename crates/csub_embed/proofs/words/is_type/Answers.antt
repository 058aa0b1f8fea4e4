use Rattle.csub_embed.specs.Names.{is_type}
use Rattle.csub_embed.proofs.words.is_type.Goals as goal

pub returns : goal.returns
unfolding is_type
returns c = c.is_one_of.ensures
