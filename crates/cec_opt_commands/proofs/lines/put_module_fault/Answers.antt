use Rattle.cec_opt_commands.proofs.lines.put_module_fault.Goals as goal

pub returns-in-NoModule : goal.returns-in-NoModule
returns-in-NoModule g c = rw c.in-NoModule.is c.put_said.ensures

pub returns-in-NoReset : goal.returns-in-NoReset
returns-in-NoReset g c = rw c.in-NoReset.is c.put_said-in-NoReset.ensures

pub returns-in-Reserved : goal.returns-in-Reserved
returns-in-Reserved g c = rw (c.in-Reserved.is, ← c.bytes.ensures) c.put_said-in-Reserved.ensures

pub returns-in-Twice : goal.returns-in-Twice
returns-in-Twice g c = rw (c.in-Twice.is, ← c.bytes-in-Twice.ensures) c.put_said-in-Twice.ensures
