use Rattle.cec_commands.proofs.fault_lines.put_unknown.Goals as goal

pub returns : goal.returns
returns g c = rw (← c.args.wires.now.is_text, ← c.as_slice.ensures.value) c.put_numbered.ensures
