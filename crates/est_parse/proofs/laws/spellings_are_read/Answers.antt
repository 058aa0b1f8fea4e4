use Rattle.est_parse.proofs.SpelledPrograms.{spellings-are-read}
use Rattle.est_parse.proofs.laws.spellings_are_read.Goals as goal

pub returns : goal.returns
returns c = spellings-are-read
