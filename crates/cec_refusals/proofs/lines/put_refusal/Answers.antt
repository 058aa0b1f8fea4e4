use Rattle.cec_refusals.proofs.lines.put_refusal.Goals as goal

pub returns-in-Cyclic : goal.returns-in-Cyclic
returns-in-Cyclic g c = rw (c.in-Cyclic.is, ← c.as_slice.ensures.value) c.put_line.ensures

pub returns-in-Limit : goal.returns-in-Limit
returns-in-Limit g c = rw (c.in-Limit.is, ← c.as_bytes.ensures.value) c.put_line-in-Limit.ensures

pub returns-in-NoMemory : goal.returns-in-NoMemory
returns-in-NoMemory g c = rw c.in-NoMemory.is c.put_line-in-NoMemory.ensures
