use Rattle.est_parse.proofs.SpellableTrees.{trees-are-spellable}
use Rattle.est_parse.proofs.SpelledTrees.{spellings-are-grammatical}
use Rattle.est_parse.proofs.laws.spellings_are_grammatical.Goals as goal

pub returns : goal.returns
returns c = record { spelled = spellings-are-grammatical; all = trees-are-spellable }
