use Rattle.std.proofs.Common.{map}
use Rattle.net_ir.specs.Runs.{netlist_of}
use Rattle.vlog_reset.specs.Views.{options_of}
use Rattle.cec_opt_texts.specs.Related.{named_relation}
use Rattle.cec_opt_reset.proofs.CircuitTexts.{small-text, text-fault}
use Rattle.cec_opt_reset.proofs.texts.optimized_reset.Goals as goal

pub returns-in-Ok-clause-keeps : goal.returns-in-Ok-clause-keeps
returns-in-Ok-clause-keeps c =
    small-text (λ t. t.items) c.args.text.now (map named_relation c.args.given.now) (options_of c.args.options) (netlist_of c.in-Ok.net) c.net_text.result
    c.in-Ok.ensures.small c.net_text.ensures.text c.net_text.ensures.means

pub returns-in-Ok-clause-fault : goal.returns-in-Ok-clause-fault
returns-in-Ok-clause-fault c =
    text-fault c.args.text.now (map named_relation c.args.given.now) (options_of c.args.options) (netlist_of c.in-Ok.net) c.net_text.result
    c.in-Ok.ensures.small c.net_text.ensures.fault
