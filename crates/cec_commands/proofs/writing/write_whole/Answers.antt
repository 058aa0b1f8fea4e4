use Rattle.std.proofs.Common.{◌≡◌}
use Rattle.base_types.specs.SinkChanges.{change}
use Rattle.cec_commands.proofs.Pieces.{written_text, written_writes}
use Rattle.cec_commands.proofs.writing.write_whole.Goals as goal

pub returns-clause-agrees : goal.returns-clause-agrees
returns-clause-agrees g c = rw c.from.ensures (written_writes c.write_whole.result)

pub returns-clause-out : goal.returns-clause-out
returns-clause-out g c =
    rw c.from.ensures
    (written_text (λ written. written ≡ c.args.text.now) (change g.O.Sink.told g.O.Sink.faults c.args.out.now c.write_whole.new.out) c.write_whole.result
    c.write_whole.ensures)
