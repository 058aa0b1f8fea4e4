use Rattle.std.proofs.Common.{◌≡◌, ◌++◌, ◌+◌, ◌*◌, ◌<◌, length, map, vec_len}
use Rattle.base_reader.specs.Readings.{mapped, loop}
use Rattle.base_reader.specs.StatementGrammar.{plain_of}
use Rattle.base_reader.specs.StatementReading.{inside, statement, step, list_of}
use Rattle.base_reader.proofs.statements.+statement.Given as goal

abbrev pub decreases-read_item : goal.decreases-read_item
decreases-read_item l = l.room * 2

abbrev pub decreases-read_statement : goal.decreases-read_statement
decreases-read_statement l = l.room * 2 + 1

-- What was read so far, in front of the steps on the rest, is the whole.
abbrev pub invariant-read_statement-loop-behind : goal.invariant-read_statement-loop-behind
invariant-read_statement-loop-behind l = record {
  some : 0 < vec_len l.items;
  whole : mapped (λ others. list_of (map plain_of l.items.items ++ others)) (loop (step l.room (inside l.room))) l.rest ≡ statement l.room l.tokens;
}

abbrev pub decreases-read_statement-loop-behind : goal.decreases-read_statement-loop-behind
decreases-read_statement-loop-behind l = length l.rest
