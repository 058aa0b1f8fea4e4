use Rattle.net_ir.specs.Runs.{netlist_of}
use Rattle.csub_guard_run.proofs.NetTexts.{inputs-counted, outputs-counted, counter-net}
use Rattle.csub_guard_run.proofs.language.GuardedTextsLanguage.read_back.Goals as goal

pub returns-in-Ok-clause-shows : goal.returns-in-Ok-clause-shows
returns-in-Ok-clause-shows c = counter-net c.args.text.now (netlist_of c.args.net.now) c.in-Ok.machine c.in-Ok.ensures.program c.in-Ok.ensures.fresh

pub returns-in-Ok-clause-each_input : goal.returns-in-Ok-clause-each_input
returns-in-Ok-clause-each_input c = inputs-counted c.args.text.now (netlist_of c.args.net.now) _ c.in-Ok.ensures.program

pub returns-in-Ok-clause-each_output : goal.returns-in-Ok-clause-each_output
returns-in-Ok-clause-each_output c = outputs-counted c.args.text.now (netlist_of c.args.net.now) _ c.in-Ok.ensures.program
