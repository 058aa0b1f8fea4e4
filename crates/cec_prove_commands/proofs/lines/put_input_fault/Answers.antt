use Rattle.cec_prove_commands.proofs.lines.put_input_fault.Goals as goal

pub returns-in-Unread : goal.returns-in-Unread
returns-in-Unread g c = rw (c.in-Unread.is, ← c.file_name.ensures, ← c.as_bytes.ensures.value) c.put_said.ensures

pub returns-in-Refused : goal.returns-in-Refused
returns-in-Refused g c = rw (c.in-Refused.is, ← c.refused_of.ensures.refused) c.put_refusal.ensures

pub returns-in-NotConstructive : goal.returns-in-NotConstructive
returns-in-NotConstructive g c = rw c.in-NotConstructive.is c.put_stuck.ensures

pub returns-in-UndecidedCycle : goal.returns-in-UndecidedCycle
returns-in-UndecidedCycle g c = rw (c.in-UndecidedCycle.is, ← c.deref.ensures.value) c.put_input_line.ensures

pub returns-in-TooManyNets : goal.returns-in-TooManyNets
returns-in-TooManyNets g c = rw (c.in-TooManyNets.is, ← c.deref-in-TooManyNets.ensures.value) c.put_input_line-in-TooManyNets.ensures

pub returns-in-BadText : goal.returns-in-BadText
returns-in-BadText g c = rw c.in-BadText.is c.put_bad_text.ensures

pub returns-in-TooLong : goal.returns-in-TooLong
returns-in-TooLong g c = rw c.in-TooLong.is c.put_input_line-in-TooLong.ensures
