use Rattle.std.proofs.Common.{◌≡◌, ℕ, ◌<◌, false, get_or}
use Rattle.blif_text.specs.Lines.{is_blank}
use Rattle.blif_read.proofs.words.word_len.Given as goal

-- what the bytes before this place are
abbrev pub invariant-loop-at : goal.invariant-loop-at
invariant-loop-at l = (k : ℕ) → k < l.at → is_blank (get_or l.line k 0) ≡ false
