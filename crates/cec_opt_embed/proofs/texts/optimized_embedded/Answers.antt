use Rattle.std.proofs.Common.{map}
use Rattle.net_ir.specs.Runs.{netlist_of}
use Rattle.cec_opt_texts.specs.Related.{named_relation}
use Rattle.cec_opt_embed.proofs.CircuitTexts.{text-keeps}
use Rattle.cec_opt_embed.proofs.texts.optimized_embedded.Goals as goal

pub returns-clause-keeps : goal.returns-clause-keeps
returns-clause-keeps c =
    text-keeps c.args.text.now (map named_relation c.args.given.now) c.args.name.now c.args.layout c.in_ok-written.written.items
    (netlist_of c.in_ok-net.net) c.in_ok-net.ensures.small c.in_ok-written.ensures.text c.in_ok-written.ensures.means
