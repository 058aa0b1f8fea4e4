use Rattle.std.proofs.Common.{◌≡◌, ◌++◌, map, length}
use Rattle.blif_text.specs.Lines.{words}
use Rattle.blif_read.proofs.words.words.Given as goal

-- the words so far, and those of what is left, are all
abbrev pub invariant-loop-word : goal.invariant-loop-word
invariant-loop-word l = map (λ w. w.now) l.found.items ++ words l.rest ≡ words l.line

abbrev pub decreases-loop-word : goal.decreases-loop-word
decreases-loop-word l = length l.rest
