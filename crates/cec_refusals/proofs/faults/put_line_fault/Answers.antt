use Rattle.std.proofs.Common.{append_assoc, codes}
use Rattle.cec_refusals.proofs.faults.put_line_fault.Goals as goal

pub returns : goal.returns
returns g c =
    rw (
      ← c.format.ensures.text,
      ← c.as_bytes-shown.ensures.value,
      append_assoc c.as_bytes-shown.result.now (codes ": not in the profile") (codes "\n"),
    ) c.write_pieces.ensures
