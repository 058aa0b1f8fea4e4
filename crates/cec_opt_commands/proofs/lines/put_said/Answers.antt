use Rattle.std.proofs.Common.{append_assoc, codes}
use Rattle.cec_opt_commands.proofs.lines.put_said.Goals as goal

pub returns : goal.returns
returns g c = rw (append_assoc c.args.said.now c.args.of.now (codes "\n")) c.write_pieces.ensures
