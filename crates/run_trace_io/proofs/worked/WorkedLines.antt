-- Written by hand: worked lines.
use Rattle.std.proofs.Common.{◌≡◌, true, false, [], ◌∷◌, codes, refl}
use Rattle.run_trace_io.specs.declared.lines.Word.TheVariants.{Paused, Ended, Bare}
use Rattle.run_trace_io.specs.Lines.{line}

two_are_present : line (codes "X" ∷ codes "A" ∷ codes "O" ∷ []) (true ∷ false ∷ true ∷ []) Paused ≡ codes "X O | paused\n"
two_are_present = refl

none_is_present : line (codes "X" ∷ codes "O" ∷ []) (false ∷ false ∷ []) Ended ≡ codes "- | ended\n"
none_is_present = refl

there_is_no_signal : line [] [] Bare ≡ codes "-\n"
there_is_no_signal = refl

the_last_is_present : line (codes "X" ∷ codes "O" ∷ []) (false ∷ true ∷ []) Bare ≡ codes "O\n"
the_last_is_present = refl
