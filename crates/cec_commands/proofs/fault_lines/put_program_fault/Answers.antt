use Rattle.cec_commands.proofs.fault_lines.put_program_fault.Goals as goal

pub returns-in-TooLong : goal.returns-in-TooLong
returns-in-TooLong g c = rw c.in-TooLong.is c.write_pieces.ensures

pub returns-in-Syntax : goal.returns-in-Syntax
returns-in-Syntax g c = rw c.in-Syntax.is c.put_numbered.ensures

pub returns-in-Twice : goal.returns-in-Twice
returns-in-Twice g c = rw (c.in-Twice.is, ← c.bytes.ensures) c.write_pieces-in-Twice.ensures

pub returns-in-Undeclared : goal.returns-in-Undeclared
returns-in-Undeclared g c = rw (c.in-Undeclared.is, ← c.bytes-in-Undeclared.ensures) c.write_pieces-in-Undeclared.ensures

pub returns-in-Unset : goal.returns-in-Unset
returns-in-Unset g c = rw (c.in-Unset.is, ← c.bytes-in-Unset.ensures) c.write_pieces-in-Unset.ensures
