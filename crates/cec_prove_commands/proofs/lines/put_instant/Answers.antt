use Rattle.std.proofs.Common.{append_assoc, codes, ◌++◌}
use Rattle.cec_prove_commands.proofs.lines.put_instant.Goals as goal

pub returns : goal.returns
returns g c =
    rw (
      ← c.format.ensures.text,
      ← c.as_bytes-shown.ensures.value,
      ← c.deref.ensures.value,
      append_assoc c.as_bytes-shown.result.now (codes ": not constructive: " ++ c.deref.result.now) (codes "\n"),
    ) c.write_pieces.ensures
