use Rattle.cec_opt_commands.proofs.command.cec_opt.Goals as goal

pub returns-in-Ok-Do-clause-err : goal.returns-in-Ok-Do-clause-err
returns-in-Ok-Do-clause-err g c = rw (← c.in-Ok-Do.ensures, c.in-Ok-Do.field-0-is) c.do_file.ensures.err

pub returns-in-Ok-Tell-clause-err : goal.returns-in-Ok-Tell-clause-err
returns-in-Ok-Tell-clause-err g c = rw (← c.in-Ok-Tell.ensures, c.in-Ok-Tell.field-0-is) c.tell.ensures.err
