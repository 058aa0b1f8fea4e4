use Rattle.blif_net.proofs.Words.{unmarked-answer}
use Rattle.blif_net.proofs.interface.unmarked.Goals as goal

pub returns : goal.returns
returns c = unmarked-answer c.strip_suffix.result c.args.word.now c.strip_suffix.ensures.cases
