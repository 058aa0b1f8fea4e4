use Rattle.std.proofs.Common.{◌≡◌, ◌∙◌}
use Rattle.base_types.specs.SinkChanges.{change}
use Rattle.cec_opt_commands.specs.HelpTexts.{own_text}
use Rattle.cec_opt_commands.proofs.Outcomes.{written_text, written_writes}
use Rattle.cec_opt_commands.proofs.command.tell.Goals as goal

pub returns-clause-agrees : goal.returns-clause-agrees
returns-clause-agrees g c = rw c.from-outcome.ensures (written_writes c.write_whole.result)

pub returns-clause-out : goal.returns-clause-out
returns-clause-out g c =
    rw c.from-outcome.ensures
    (written_text (λ written. written ≡ c.own_text.result.now) (λ written. written ≡ own_text c.args.about)
    (change g.O.Sink.told g.O.Sink.faults c.args.out.now c.write_whole.new.out) c.write_whole.result (λ written is. is ∙ c.own_text.ensures)
    c.write_whole.ensures)
