use Rattle.std.proofs.Common.{◌≡◌, ℕ, ◌+◌, ◌-◌, ◌<◌, ◌≤◌, length, take}
use Rattle.blif_text.specs.Lines.{text_lines}
use Rattle.blif_read.specs.Rests.{lines_left, continued}
use Rattle.blif_read.proofs.lines.joined_line.Given as goal

-- the bytes so far, and the lines that follow, are the whole
abbrev pub invariant-lines : goal.invariant-lines
invariant-lines l = record {
  more : 0 < length l.rest.bytes.now;
  in_range : l.rest.number + length l.rest.bytes.now ≤ l.fn.rest.number + length l.fn.rest.bytes.now;
  counted : l.rest.number + length (text_lines l.rest.bytes.now) ≡ l.fn.rest.number + length (text_lines l.fn.rest.bytes.now);
  same : (n : ℕ) → continued n (take (length l.first - 1) l.first) (lines_left l.fn.rest.number l.fn.rest.bytes.now)
      ≡ continued n l.bytes.items (lines_left l.rest.number l.rest.bytes.now);
  no_longer : length l.rest.bytes.now ≤ length l.fn.rest.bytes.now;
}

abbrev pub decreases-lines : goal.decreases-lines
decreases-lines l = length l.rest.bytes.now
