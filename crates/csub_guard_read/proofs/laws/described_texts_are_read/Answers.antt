use Rattle.csub_guard_read.proofs.ReadBack.{described-are-read}
use Rattle.csub_guard_read.proofs.laws.described_texts_are_read.Goals as goal

pub returns : goal.returns
returns c = described-are-read
