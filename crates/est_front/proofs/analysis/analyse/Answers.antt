use Rattle.est_kernel.specs.Plain.{program_of}
use Rattle.est_front.proofs.FormedPrograms.{expands-well_formed, expands-names}
use Rattle.est_front.proofs.analysis.analyse.Goals as goal

pub codes-requires : goal.codes-requires
codes-requires c = (expands-well_formed _ _ (program_of c.in_ok-program.program) c.in_ok-program.ensures.program).body

pub returns-in-Ok-clause-formed : goal.returns-in-Ok-clause-formed
returns-in-Ok-clause-formed c = expands-well_formed _ _ (program_of c.in_ok-program.program) c.in_ok-program.ensures.program

pub returns-in-Ok-clause-names : goal.returns-in-Ok-clause-names
returns-in-Ok-clause-names c = expands-names _ _ (program_of c.in_ok-program.program) c.in_ok-program.ensures.program
