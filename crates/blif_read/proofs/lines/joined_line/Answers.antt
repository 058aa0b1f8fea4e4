use Rattle.std.proofs.Common.{◌+◌, ◌-◌, ◌∷◌, ◌++◌, length, take, sym, ap, ◌∙◌, arith}
use Rattle.blif_text.specs.Lines.{ends_with, joined}
use Rattle.blif_read.specs.Rests.{lines_left, continued}
use Rattle.blif_read.proofs.FirstLines.{line_of, joined-alone, joined-continued, continued-front, more_behind, length-lines_left}
use Rattle.blif_read.proofs.lines.joined_line.Goals as goal

pub returns-then-not-is_continued : goal.returns-then-not-is_continued
returns-then-not-is_continued c =
    let old = c.lines.rest in
    let new = c.take_line-next.new.rest in
    let next = c.take_line-next.result.now in
    let taken = c.take_line-next.ensures in
    let before = c.lines.invariant in
    record {
      took = record {
        counted = omega (arith, taken.counted, taken.number, before.counted);
        shorter = omega (arith, taken.shorter, before.no_longer);
        in_range
            = omega (arith, taken.shorter, taken.number, before.in_range);
      };
      lines = λ n. before.same n
          ∙ ap (continued n c.lines.bytes.items) (ap (joined old.number) taken.lines ∙ joined-alone old.number next new.bytes.now
          (sym c.if-not-is_continued.ensures))
          ∙ ap (λ m. line_of n (c.lines.bytes.items ++ next) ∷ lines_left m new.bytes.now) (sym taken.number)
          ∙ ap (λ b. line_of n b ∷ lines_left new.number new.bytes.now) (sym c.in_ok-extend_from_slice.ensures.items);
    }

pub lines-preserved : goal.lines-preserved
lines-preserved c =
    let old = c.lines.rest in
    let new = c.take_line-next.new.rest in
    let next = c.take_line-next.result.now in
    let taken = c.take_line-next.ensures in
    let before = c.lines.invariant in
    let goes = sym c.if-not-is_continued.ensures in
    let some = more_behind (ends_with 92 next) new.bytes.now goes in
    let front = take (length next - 1) next in
    record {
      more = some;
      in_range = omega (arith, taken.shorter, taken.number, before.in_range);
      counted = omega (arith, taken.counted, taken.number, before.counted);
      same = λ n. before.same n
          ∙ ap (continued n c.lines.bytes.items) (ap (joined old.number) taken.lines ∙ joined-continued old.number next new.bytes.now goes)
          ∙ continued-front n old.number c.lines.bytes.items front (lines_left (old.number + 1) new.bytes.now)
          (length-lines_left (old.number + 1) new.bytes.now some)
          ∙ ap (λ m. continued n (c.lines.bytes.items ++ front) (lines_left m new.bytes.now)) (sym taken.number)
          ∙ ap (λ b. continued n b (lines_left new.number new.bytes.now)) (sym c.in_ok-extend_from_slice-2.ensures.items);
      no_longer = omega (arith, taken.shorter, before.no_longer);
    }
