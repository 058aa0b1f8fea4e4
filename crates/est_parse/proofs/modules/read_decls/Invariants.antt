use Rattle.std.proofs.Common.{◌≡◌, ◌++◌, length, map}
use Rattle.est_ast.specs.Views.{decl_of}
use Rattle.est_parse.specs.Reading.{decl_step}
use Rattle.base_reader.specs.Readings.{mapped, loop}
use Rattle.est_parse.proofs.modules.read_decls.Given as goal

-- What was read so far, in front of the steps on the rest, is the whole.
abbrev pub invariant-declarations : goal.invariant-declarations
invariant-declarations l = mapped (λ others. map decl_of l.found.items ++ others) (loop (decl_step l.room)) l.rest ≡ loop (decl_step l.room) l.tokens

abbrev pub decreases-declarations : goal.decreases-declarations
decreases-declarations l = length l.rest
