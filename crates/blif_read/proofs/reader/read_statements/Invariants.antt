use Rattle.std.proofs.Common.{◌≡◌, ◌+◌, ◌<◌, ◌^◌, ◌++◌, length, map, None}
use Rattle.std.specs.Prelude.{flat_map, filter_map}
use Rattle.blif_text.specs.Lines.{text_lines}
use Rattle.blif_text.specs.Statements.{said_in, said, first_refused}
use Rattle.blif_text.specs.Circuits.{statements}
use Rattle.blif_read.specs.PlainStatements.{plain_statement, last_of}
use Rattle.blif_read.specs.Rests.{lines_left}
use Rattle.blif_read.proofs.reader.read_statements.Given as goal

-- no line is refused so far; the statements so far, and those of the lines that are left, are all
abbrev pub invariant-lines : goal.invariant-lines
invariant-lines l = record {
  refused : first_refused (length (text_lines l.text) + 1) None (said l.text)
      ≡ first_refused (length (text_lines l.text) + 1) (last_of (map plain_statement l.statements.items))
      (flat_map said_in (lines_left l.rest.number l.rest.bytes.now));
  so_far : statements l.text
      ≡ map plain_statement l.statements.items
      ++ filter_map (λ line. line.says) (flat_map said_in (lines_left l.rest.number l.rest.bytes.now));
  counted : l.rest.number + length (text_lines l.rest.bytes.now) ≡ length (text_lines l.text) + 1;
  in_range : l.rest.number + length l.rest.bytes.now < 2 ^ 32;
}

abbrev pub decreases-lines : goal.decreases-lines
decreases-lines l = length l.rest.bytes.now
