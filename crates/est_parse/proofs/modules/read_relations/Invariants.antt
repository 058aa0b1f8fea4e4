use Rattle.std.proofs.Common.{◌≡◌, ◌++◌, length, map}
use Rattle.est_ast.specs.declared.tokens.Mark.TheVariants as marks
use Rattle.est_ast.specs.Views.{relation_of}
use Rattle.est_parse.specs.Reading.{list_step, listed, relation}
use Rattle.base_reader.specs.Readings.{mapped, loop}
use Rattle.est_parse.proofs.modules.read_relations.Given as goal

-- What was read so far, in front of the steps on the rest, is the whole.
abbrev pub invariant-loop-behind : goal.invariant-loop-behind
invariant-loop-behind l = mapped (λ others. map relation_of l.found.items ++ others) (loop (list_step marks.Comma relation)) l.rest ≡
    listed marks.Comma relation l.tokens

abbrev pub decreases-loop-behind : goal.decreases-loop-behind
decreases-loop-behind l = length l.rest
