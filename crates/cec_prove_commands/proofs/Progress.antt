-- The lines that are written during a search, and the line after them.
use Rattle.std.proofs.Common.{◌≡◌, ℕ, ◌+◌, Bool, List, ◌++◌, Option, Result, subst, suc, arith}
use Rattle.base_types.specs.SinkChanges.{SinkChange}
use Rattle.base_types.specs.Writing.{Wrote}
use Rattle.base_types.specs.declared.sinks.writing.SinkFault.{SinkFault}
use Rattle.cec_text_io.specs.ErrorLines.{GainsLine}
use Rattle.cec_prove_commands.specs.Answers.{GainsAll, HasTold}
use Rattle.cec_prove_commands.specs.Lines.{progress_line, progress_lines}

-- what was told before a further try
pub one-further : (n : ℕ) (a b : Option (List ℕ)) (f g : ℕ) (told : Result (Unit {0}) SinkFault)
    → Wrote a b f g (progress_lines n ++ progress_line (n + 2)) told → Wrote a b f g (progress_lines (n + 1)) told
one-further n a b f g told w = let e : suc n ≡ n + 1 = omega arith in subst (λ m. Wrote a b f g (progress_lines m) told) e w

pub all-told : (progress : Bool) (told : Result (Unit {0}) SinkFault) (s : SinkChange) (last : List ℕ) (after : Option (List ℕ)) (faults : ℕ)
    → (t : HasTold progress told s) → GainsLine s.before after s.faults_before faults (progress_lines t.further ++ last)
    → GainsAll progress (record { before = s.before; after = after; faults_before = s.faults_before; faults_now = faults }) last
all-told progress told s last after faults t gains = record { further = t.further; few = t.few; gains = gains }
