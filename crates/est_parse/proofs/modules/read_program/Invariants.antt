use Rattle.std.proofs.Common.{◌≡◌, ◌++◌, length, map}
use Rattle.est_ast.specs.Views.{module_of}
use Rattle.est_parse.specs.Reading.{module_step, program}
use Rattle.base_reader.specs.Readings.{mapped, loop}
use Rattle.est_parse.proofs.modules.read_program.Given as goal

-- What was read so far, in front of the steps on the rest, is the whole.
abbrev pub invariant-modules : goal.invariant-modules
invariant-modules l = mapped (λ others. map module_of l.modules.items ++ others) (loop (module_step l.room)) l.rest ≡ program l.room l.tokens

abbrev pub decreases-modules : goal.decreases-modules
decreases-modules l = length l.rest
