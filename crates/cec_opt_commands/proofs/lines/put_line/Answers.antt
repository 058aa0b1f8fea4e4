use Rattle.cec_opt_commands.proofs.lines.put_line.Goals as goal

pub returns-in-Usage : goal.returns-in-Usage
returns-in-Usage g c = rw (c.in-Usage.is, ← c.as_bytes.ensures.value) c.put_said.ensures

pub returns-in-FileFault : goal.returns-in-FileFault
returns-in-FileFault g c = rw (c.in-FileFault.is, ← c.as_bytes-in-FileFault.ensures.value) c.put_said-in-FileFault.ensures

pub returns-in-BadText : goal.returns-in-BadText
returns-in-BadText g c = rw c.in-BadText.is c.put_blif_fault.ensures

pub returns-in-BadComponent : goal.returns-in-BadComponent
returns-in-BadComponent g c = rw c.in-BadComponent.is c.put_component_fault.ensures

pub returns-in-BadModule : goal.returns-in-BadModule
returns-in-BadModule g c = rw c.in-BadModule.is c.put_module_fault.ensures

pub returns-in-TooLong : goal.returns-in-TooLong
returns-in-TooLong g c = rw c.in-TooLong.is c.put_said-in-TooLong.ensures

pub returns-in-WriteFault : goal.returns-in-WriteFault
returns-in-WriteFault g c = rw c.in-WriteFault.is c.put_said-in-WriteFault.ensures

pub returns-in-NoMemory : goal.returns-in-NoMemory
returns-in-NoMemory g c = rw c.in-NoMemory.is c.put_said-in-NoMemory.ensures

pub returns-in-NotConstructive : goal.returns-in-NotConstructive
returns-in-NotConstructive g c = rw c.in-NotConstructive.is c.put_stuck.ensures

pub returns-in-Undecided : goal.returns-in-Undecided
returns-in-Undecided g c = rw (c.in-Undecided.is, ← c.deref.ensures.value) c.put_said-in-Undecided.ensures

pub returns-in-TooManyNets : goal.returns-in-TooManyNets
returns-in-TooManyNets g c = rw (c.in-TooManyNets.is, ← c.deref-in-TooManyNets.ensures.value) c.put_said-in-TooManyNets.ensures
