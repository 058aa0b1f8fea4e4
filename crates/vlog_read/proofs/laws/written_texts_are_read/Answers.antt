use Rattle.vlog_read.proofs.ReadBack.{written-are-read}
use Rattle.vlog_read.proofs.laws.written_texts_are_read.Goals as goal

pub returns : goal.returns
returns c = written-are-read
