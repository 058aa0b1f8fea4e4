use Rattle.std.proofs.Common.{◌++◌, append_assoc, codes}
use Rattle.cec_opt_commands.proofs.lines.put_misuse.Goals as goal

pub returns : goal.returns
returns g c =
    let fault = c.args.misuse.fault.now in
    let word = c.args.misuse.word.now in
    rw (
      append_assoc fault word (codes ", see cec-opt --help"),
      append_assoc fault (word ++ codes ", see cec-opt --help") (codes "\n"),
      append_assoc word (codes ", see cec-opt --help") (codes "\n"),
    ) c.write_pieces.ensures
