use Rattle.csub_read.proofs.LongestTokens.{tokens-longest}
use Rattle.csub_read.proofs.laws.tokens_are_longest.Goals as goal

pub returns : goal.returns
returns c = tokens-longest
