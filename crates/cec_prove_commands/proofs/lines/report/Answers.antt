use Rattle.cec_text_io.proofs.Exports.{whole_or_front}
use Rattle.cec_prove_commands.proofs.lines.report.Goals as goal

pub returns : goal.returns
returns g c = whole_or_front _ _ _ _ _ c.put_line.result c.put_line.ensures
