use Rattle.cec_prove_commands.proofs.lines.put_begin.Goals as goal

pub returns-in-First : goal.returns-in-First
returns-in-First g c = rw c.in-First.is c.write_pieces.ensures

pub returns-in-Second : goal.returns-in-Second
returns-in-Second g c = rw (c.in-Second.is, ← c.as_bytes.ensures.value) c.write_pieces-in-Second.ensures
