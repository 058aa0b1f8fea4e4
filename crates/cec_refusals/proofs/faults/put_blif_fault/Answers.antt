use Rattle.cec_refusals.proofs.faults.put_blif_fault.Goals as goal

pub returns-in-TooLong : goal.returns-in-TooLong
returns-in-TooLong g c = rw c.in-TooLong.is c.write_pieces.ensures

pub returns-in-Line : goal.returns-in-Line
returns-in-Line g c = rw c.in-Line.is c.put_line_fault.ensures

pub returns-in-TwoDrivers : goal.returns-in-TwoDrivers
returns-in-TwoDrivers g c = rw (c.in-TwoDrivers.is, ← c.bytes.ensures) c.write_pieces-in-TwoDrivers.ensures

pub returns-in-NoDriver : goal.returns-in-NoDriver
returns-in-NoDriver g c = rw (c.in-NoDriver.is, ← c.bytes-in-NoDriver.ensures) c.write_pieces-in-NoDriver.ensures

pub returns-in-NoPause : goal.returns-in-NoPause
returns-in-NoPause g c = rw c.in-NoPause.is c.write_pieces-in-NoPause.ensures

pub returns-in-Model : goal.returns-in-Model
returns-in-Model g c = rw (c.in-Model.is, ← c.bytes-in-Model.ensures) c.write_pieces-in-Model.ensures

pub returns-in-Input : goal.returns-in-Input
returns-in-Input g c = rw (c.in-Input.is, ← c.bytes-in-Input.ensures) c.write_pieces-in-Input.ensures

pub returns-in-Output : goal.returns-in-Output
returns-in-Output g c = rw (c.in-Output.is, ← c.bytes-in-Output.ensures) c.write_pieces-in-Output.ensures

pub returns-in-Again : goal.returns-in-Again
returns-in-Again g c = rw (c.in-Again.is, ← c.bytes-in-Again.ensures) c.write_pieces-in-Again.ensures

pub returns-in-Loop : goal.returns-in-Loop
returns-in-Loop g c = rw (c.in-Loop.is, ← c.deref.ensures.value) c.put_loop.ensures

pub returns-in-TooManyNets : goal.returns-in-TooManyNets
returns-in-TooManyNets g c = rw c.in-TooManyNets.is c.write_pieces-in-TooManyNets.ensures

pub returns-in-NoInput : goal.returns-in-NoInput
returns-in-NoInput g c = rw (c.in-NoInput.is, ← c.bytes-in-NoInput.ensures) c.write_pieces-in-NoInput.ensures
