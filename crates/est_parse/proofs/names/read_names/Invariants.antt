use Rattle.std.proofs.Common.{◌≡◌, ◌++◌, length}
use Rattle.est_ast.specs.Grammar.{name}
use Rattle.est_parse.specs.Reading.{listed, list_step}
use Rattle.base_reader.specs.Readings.{mapped, loop, the}
use Rattle.est_parse.proofs.names.read_names.Given as goal

-- What was read so far, in front of the steps on the rest, is the whole.
abbrev pub invariant-loop-behind : goal.invariant-loop-behind
invariant-loop-behind l = mapped (λ others. l.found.items ++ others) (loop (list_step l.separator (the name))) l.rest ≡ listed l.separator (the name) l.tokens

abbrev pub decreases-loop-behind : goal.decreases-loop-behind
decreases-loop-behind l = length l.rest
