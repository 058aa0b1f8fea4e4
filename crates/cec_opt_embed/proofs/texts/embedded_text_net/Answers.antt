use Rattle.std.proofs.Common.{map}
use Rattle.net_ir.specs.Runs.{netlist_of}
use Rattle.cec_opt_texts.specs.Related.{named_relation}
use Rattle.cec_opt_embed.proofs.CircuitTexts.{text-fault, text-net}
use Rattle.cec_opt_embed.proofs.texts.embedded_text_net.Goals as goal

pub returns-in-Ok-clause-small : goal.returns-in-Ok-clause-small
returns-in-Ok-clause-small c =
    text-net c.args.text.now (map named_relation c.args.given.now) c.args.name.now (netlist_of c.in-Ok.net) c.named_net.result c.in-Ok.ensures.small
    c.named_net.ensures.named

pub returns-in-Ok-clause-fault : goal.returns-in-Ok-clause-fault
returns-in-Ok-clause-fault c =
    text-fault c.args.text.now (map named_relation c.args.given.now) c.args.name.now (netlist_of c.in-Ok.net) c.named_net.result c.in-Ok.ensures.small
    c.named_net.ensures.fault
