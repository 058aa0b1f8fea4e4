use Rattle.std.proofs.Common.{◌+◌, length, map, arith}
use Rattle.blif_text.specs.Lines.{text_lines}
use Rattle.blif_read.specs.PlainStatements.{plain_statement}
use Rattle.blif_read.specs.Rests.{lines_left, plain_line}
use Rattle.blif_read.proofs.TakenLines.{refused-more, says-next}
use Rattle.blif_read.proofs.reader.read_statements.Goals as goal

pub lines-preserved : goal.lines-preserved
lines-preserved c =
    let before = c.lines.invariant in
    let next = rw c.in-Some.is at c.in_ok-line.ensures in
    let old = map plain_statement c.lines.statements.items in
    let new = map plain_statement c.take_line.new.statements.items in
    let line = plain_line c.in-Some.line in
    let lines = lines_left c.lines.rest.number c.lines.rest.bytes.now in
    let more = lines_left c.next_line.new.rest.number c.next_line.new.rest.bytes.now in
    record {
      refused = refused-more (length (text_lines c.args.text.now) + 1) _ c.in_ok-taken.taken old new line lines more line.number
          before.refused next.lines c.in_ok-taken.ensures.place c.if-not-taken.false;
      so_far = says-next _ c.in_ok-taken.taken old new line lines more before.so_far next.lines c.in_ok-taken.ensures.statements c.if-not-taken.false;
      counted = omega (arith, next.took.counted, before.counted);
      in_range = omega (arith, next.took.in_range, before.in_range);
    }

pub lines-preserved-else-not-taken : goal.lines-preserved-else-not-taken
lines-preserved-else-not-taken c =
    let before = c.lines.invariant in
    let next = rw c.in-Some.is at c.in_ok-line.ensures in
    let old = map plain_statement c.lines.statements.items in
    let new = map plain_statement c.take_line.new.statements.items in
    let line = plain_line c.in-Some.line in
    let lines = lines_left c.lines.rest.number c.lines.rest.bytes.now in
    let more = lines_left c.next_line.new.rest.number c.next_line.new.rest.bytes.now in
    record {
      refused = refused-more (length (text_lines c.args.text.now) + 1) _ c.in_ok-taken.taken old new line lines more line.number
          before.refused next.lines c.in_ok-taken.ensures.place c.if-not-taken.false;
      so_far = says-next _ c.in_ok-taken.taken old new line lines more before.so_far next.lines c.in_ok-taken.ensures.statements c.if-not-taken.false;
      counted = omega (arith, next.took.counted, before.counted);
      in_range = omega (arith, next.took.in_range, before.in_range);
    }
