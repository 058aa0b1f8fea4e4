use Rattle.std.proofs.Common.{◌≡◌, ◌∙◌, Some}
use Rattle.base_types.specs.SinkChanges.{change}
use Rattle.cec_text_io.proofs.Pieces as texts
use Rattle.cec_prove_commands.specs.HelpTexts.{own_text}
use Rattle.cec_prove_commands.proofs.Outcomes.{told_leaves, told_writes}
use Rattle.cec_prove_commands.proofs.command.tell.Goals as goal

pub returns-clause-agrees : goal.returns-clause-agrees
returns-clause-agrees g c = rw c.written_outcome-outcome.ensures (told_writes c.write_whole.result)

pub returns-clause-out : goal.returns-clause-out
returns-clause-out g c =
    let s = change g.O.Sink.told g.O.Sink.faults c.args.out.now c.write_whole.new.out in
    rw c.written_outcome-outcome.ensures
    (told_leaves c.write_whole.result (λ written. written ≡ own_text c.args.about) s
    (texts.text_as (λ written. written ≡ c.own_text.result.now) (λ written. written ≡ own_text c.args.about) s
    (Some c.write_whole.result) (λ written is. is ∙ c.own_text.ensures)
    c.write_whole.ensures))
