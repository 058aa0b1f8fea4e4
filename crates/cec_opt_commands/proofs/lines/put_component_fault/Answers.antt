use Rattle.cec_opt_commands.proofs.lines.put_component_fault.Goals as goal

pub returns-in-NoName : goal.returns-in-NoName
returns-in-NoName g c = rw c.in-NoName.is c.put_said.ensures

pub returns-in-TypeTaken : goal.returns-in-TypeTaken
returns-in-TypeTaken g c = rw c.in-TypeTaken.is c.put_said-in-TypeTaken.ensures

pub returns-in-Reserved : goal.returns-in-Reserved
returns-in-Reserved g c = rw (c.in-Reserved.is, ← c.bytes.ensures) c.put_said-in-Reserved.ensures
