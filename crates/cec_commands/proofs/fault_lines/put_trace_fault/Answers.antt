use Rattle.cec_commands.proofs.fault_lines.put_trace_fault.Goals as goal

pub returns-in-UnknownInput : goal.returns-in-UnknownInput
returns-in-UnknownInput g c = rw (c.in-UnknownInput.is, ← c.bytes.ensures) c.put_numbered-in-UnknownInput.ensures

pub returns-in-Repeated : goal.returns-in-Repeated
returns-in-Repeated g c = rw (c.in-Repeated.is, ← c.bytes-in-Repeated.ensures) c.put_numbered-in-Repeated.ensures

pub returns-in-BadReset : goal.returns-in-BadReset
returns-in-BadReset g c = rw c.in-BadReset.is c.put_numbered-in-BadReset.ensures

pub returns-in-OpenInstant : goal.returns-in-OpenInstant
returns-in-OpenInstant g c = rw c.in-OpenInstant.is c.put_numbered-in-OpenInstant.ensures

pub returns-in-Breaks : goal.returns-in-Breaks
returns-in-Breaks g c = rw (c.in-Breaks.is, ← c.format.ensures.text, ← c.as_bytes-number.ensures.value) c.put_numbered-in-Breaks.ensures
