use Rattle.blif_net.proofs.Words.{marked-name}
use Rattle.blif_net.proofs.interface.output_name.Goals as goal

pub returns-in-Some-clause-fits : goal.returns-in-Some-clause-fits
returns-in-Some-clause-fits c = (marked-name c.args.inputs.now c.in-Some.name.now c.args.word.now c.requires c.in-Some.ensures).fits

pub returns-in-Some-clause-word : goal.returns-in-Some-clause-word
returns-in-Some-clause-word c = (marked-name c.args.inputs.now c.in-Some.name.now c.args.word.now c.requires c.in-Some.ensures).word_is
