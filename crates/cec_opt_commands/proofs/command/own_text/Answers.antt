use Rattle.std.proofs.Common.{sym, ap}
use Rattle.cec_opt_commands.specs.HelpTexts.{own_text}
use Rattle.cec_opt_commands.proofs.command.own_text.Goals as goal

pub returns-in-Commands : goal.returns-in-Commands
returns-in-Commands c = ap own_text (sym c.in-Commands.is)
