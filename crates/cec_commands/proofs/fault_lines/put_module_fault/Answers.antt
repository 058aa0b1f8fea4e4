use Rattle.cec_commands.proofs.fault_lines.put_module_fault.Goals as goal

pub returns-in-TooLong : goal.returns-in-TooLong
returns-in-TooLong g c = rw c.in-TooLong.is c.write_pieces.ensures

pub returns-in-Syntax : goal.returns-in-Syntax
returns-in-Syntax g c = rw c.in-Syntax.is c.put_numbered.ensures

pub returns-in-Twice : goal.returns-in-Twice
returns-in-Twice g c = rw (c.in-Twice.is, ← c.bytes.ensures) c.write_pieces-in-Twice.ensures

pub returns-in-Port : goal.returns-in-Port
returns-in-Port g c = rw (c.in-Port.is, ← c.bytes-in-Port.ensures) c.write_pieces-in-Port.ensures

pub returns-in-Undeclared : goal.returns-in-Undeclared
returns-in-Undeclared g c = rw (c.in-Undeclared.is, ← c.bytes-in-Undeclared.ensures) c.write_pieces-in-Undeclared.ensures

pub returns-in-TwoDrivers : goal.returns-in-TwoDrivers
returns-in-TwoDrivers g c = rw (c.in-TwoDrivers.is, ← c.bytes-in-TwoDrivers.ensures) c.write_pieces-in-TwoDrivers.ensures

pub returns-in-NoDriver : goal.returns-in-NoDriver
returns-in-NoDriver g c = rw (c.in-NoDriver.is, ← c.bytes-in-NoDriver.ensures) c.write_pieces-in-NoDriver.ensures

pub returns-in-Loop : goal.returns-in-Loop
returns-in-Loop g c = rw (c.in-Loop.is, ← c.deref.ensures.value) c.put_loop.ensures
