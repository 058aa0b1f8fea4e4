use Rattle.std.proofs.Common.{◌-◌, ◌∷◌, length, take, sym, ap, ◌∙◌, arith}
use Rattle.blif_text.specs.Lines.{joined}
use Rattle.blif_read.specs.Rests.{lines_left, continued}
use Rattle.blif_read.proofs.FirstLines.{line_of, joined-alone, joined-continued}
use Rattle.blif_read.proofs.lines.next_line.Goals as goal

pub returns-then-is_continued : goal.returns-then-is_continued
returns-then-is_continued c =
    let old = c.args.rest.now in
    let middle = c.take_line-first.new.rest in
    let first = c.take_line-first.result.now in
    let taken = c.take_line-first.ensures in
    let more = c.in_ok-joined.ensures in
    record {
      took = record {
        counted = omega (arith, taken.counted, taken.number, more.took.counted);
        shorter = omega (arith, taken.shorter, more.took.shorter);
        in_range = omega (arith, taken.shorter, taken.number, more.took.in_range);
      };
      lines = ap (joined old.number) taken.lines ∙ joined-continued old.number first middle.bytes.now (sym c.if-is_continued.ensures)
          ∙ ap (λ m. continued old.number (take (length first - 1) first) (lines_left m middle.bytes.now)) (sym taken.number) ∙ more.lines old.number;
    }

pub returns : goal.returns
returns c =
    let old = c.args.rest.now in
    let new = c.take_line-first.new.rest in
    let first = c.take_line-first.result.now in
    let taken = c.take_line-first.ensures in
    record {
      took = record { counted = omega (arith, taken.counted, taken.number); shorter = taken.shorter; in_range = omega (arith, taken.shorter, taken.number) };
      lines = ap (joined old.number) taken.lines ∙ joined-alone old.number first new.bytes.now (sym c.if-is_continued.ensures)
          ∙ ap (λ m. line_of old.number first ∷ lines_left m new.bytes.now) (sym taken.number);
    }
