use Rattle.cec_prove_commands.proofs.lines.put_depth.Goals as goal

pub returns : goal.returns
returns g c = rw (← c.format.ensures.text, ← c.as_bytes.ensures.value) c.put_said.ensures
