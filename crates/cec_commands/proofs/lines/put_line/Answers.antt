use Rattle.cec_commands.proofs.lines.put_line.Goals as goal

pub returns-in-Usage : goal.returns-in-Usage
returns-in-Usage g c = rw c.in-Usage.is c.write_pieces.ensures

pub returns-in-FileFault : goal.returns-in-FileFault
returns-in-FileFault g c =
    rw (c.in-FileFault.is, ← c.file_name-name.ensures, ← c.as_bytes.ensures.value) c.write_pieces-in-FileFault.ensures

pub returns-in-Cyclic : goal.returns-in-Cyclic
returns-in-Cyclic g c = rw (c.in-Cyclic.is, ← c.in-Cyclic.cycle.is_text, ← c.as_slice.ensures.value) c.write_pieces-in-Cyclic.ensures

pub returns-in-Limit : goal.returns-in-Limit
returns-in-Limit g c = rw (c.in-Limit.is, ← c.limit_word.ensures) c.write_pieces-in-Limit.ensures

pub returns-in-WriteFault : goal.returns-in-WriteFault
returns-in-WriteFault g c = rw c.in-WriteFault.is c.write_pieces-in-WriteFault.ensures

pub returns-in-NoMemory : goal.returns-in-NoMemory
returns-in-NoMemory g c = rw c.in-NoMemory.is c.write_pieces-in-NoMemory.ensures

pub returns-in-NotConstructive : goal.returns-in-NotConstructive
returns-in-NotConstructive g c = rw c.in-NotConstructive.is c.put_unknown.ensures
