use Rattle.std.proofs.Common.{◌≡◌, ◌++◌, length}
use Rattle.est_ast.specs.declared.tokens.Mark.TheVariants as marks
use Rattle.est_parse.specs.Reading.{listed, list_step, rename}
use Rattle.base_reader.specs.Readings.{mapped, loop}
use Rattle.est_parse.proofs.names.read_rename_list.Given as goal

-- What was read so far, in front of the steps on the rest, is the whole.
abbrev pub invariant-loop-behind : goal.invariant-loop-behind
invariant-loop-behind l = mapped (λ others. l.found.items ++ others) (loop (list_step marks.Comma rename)) l.rest ≡ listed marks.Comma rename l.tokens

abbrev pub decreases-loop-behind : goal.decreases-loop-behind
decreases-loop-behind l = length l.rest
