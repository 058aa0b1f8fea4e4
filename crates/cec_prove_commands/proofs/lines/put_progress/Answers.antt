use Rattle.std.proofs.Common.{append_assoc, codes}
use Rattle.cec_prove_commands.proofs.lines.put_progress.Goals as goal

pub returns : goal.returns
returns g c =
    rw (
      ← c.format.ensures.text,
      ← c.as_bytes-shown.ensures.value,
      append_assoc c.as_bytes-shown.result.now (codes " of 4)") (codes "\n"),
    ) c.write_pieces.ensures
