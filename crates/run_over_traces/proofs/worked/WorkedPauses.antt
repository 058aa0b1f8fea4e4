-- Worked outputs, by hand, of which a last one of a given name tells whether the program pauses.
use Rattle.std.proofs.Common.{◌≡◌, true, false, List, ℕ, [], ◌∷◌, codes, map, refl}
use Rattle.run_trace_io.specs.declared.lines.Word.TheVariants.{Bare, Paused, Ended}
use Rattle.run_over_traces.specs.Machines.{ShownAnswer}
use Rattle.run_over_traces.specs.Pauses.{answer_of, listed_count, tells_pause}

abbrev with_pause : List (List ℕ)
with_pause = codes "O" ∷ codes "Q" ∷ codes "P" ∷ []

abbrev pause_first : List (List ℕ)
pause_first = codes "P" ∷ codes "O" ∷ []

who_tells : map (tells_pause (codes "P")) (with_pause ∷ pause_first ∷ [] ∷ []) ≡ true ∷ false ∷ false ∷ []
who_tells = refl

how_many : map (listed_count (codes "P")) (with_pause ∷ pause_first ∷ [] ∷ []) ≡ 2 ∷ 2 ∷ 0 ∷ []
how_many = refl

abbrev answers : ShownAnswer → ShownAnswer → List ShownAnswer
answers a b = a ∷ b ∷ []

what_is_told : answers (answer_of (codes "P") with_pause (false ∷ true ∷ true ∷ [])) (answer_of (codes "P") with_pause (true ∷ true ∷ false ∷ []))
    ≡ answers (record { present = false ∷ true ∷ []; word = Paused }) (record { present = true ∷ true ∷ []; word = Ended })
what_is_told = refl

what_is_listed : answers (answer_of (codes "P") pause_first (true ∷ false ∷ [])) (answer_of (codes "P") [] [])
    ≡ answers (record { present = true ∷ false ∷ []; word = Bare }) (record { present = []; word = Bare })
what_is_listed = refl

-- a value that is not there counts as false
what_is_missing : answer_of (codes "P") with_pause [] ≡ record { present = []; word = Ended }
what_is_missing = refl
