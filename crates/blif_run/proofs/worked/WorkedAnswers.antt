-- Worked answers, by hand: which outputs of a circuit are listed, and what is shown of their values.
use Rattle.std.proofs.Common.{◌≡◌, ℕ, true, false, List, [], ◌∷◌, map, Ok, codes, refl}
use Rattle.base_types.specs.Items.{Item}
use Rattle.base_types.specs.Names.{is_same_name}
use Rattle.base_machines.specs.Machines.{Shows}
use Rattle.run_trace_io.specs.declared.lines.Word.TheVariants.{Bare, Paused, Ended}
use Rattle.run_over_traces.specs.Machines.{ShownAnswer}
use Rattle.blif_text.specs.Circuits.{Circuit, reading}
use Rattle.blif_text.specs.Runs.{circuit_machine, circuit_latches}
use Rattle.blif_run.specs.Loops.{IsDescribed}
use Rattle.blif_run.specs.CircuitAnswers.{tells_pause, listed_count, listed_names, answer_of, circuit_answer, circuit_shows}

abbrev with_pause : List (List ℕ)
with_pause = codes "O" ∷ codes "P" ∷ codes "_paused" ∷ []

abbrev pause_first : List (List ℕ)
pause_first = codes "_paused" ∷ codes "O" ∷ []

who_tells : map tells_pause (with_pause ∷ pause_first ∷ [] ∷ []) ≡ true ∷ false ∷ false ∷ []
who_tells = refl

how_many : map listed_count (with_pause ∷ pause_first ∷ [] ∷ []) ≡ 2 ∷ 2 ∷ 0 ∷ []
how_many = refl

which : listed_names with_pause ∷ listed_names pause_first ∷ [] ≡ (codes "O" ∷ codes "P" ∷ []) ∷ pause_first ∷ []
which = refl

abbrev answers : ShownAnswer → ShownAnswer → ShownAnswer → List ShownAnswer
answers a b c = a ∷ b ∷ c ∷ []

shown : answers (answer_of with_pause (true ∷ false ∷ true ∷ [])) (answer_of with_pause (false ∷ true ∷ false ∷ [])) (answer_of pause_first (true ∷ false ∷ []))
    ≡ answers (record { present = true ∷ false ∷ []; word = Paused }) (record { present = false ∷ true ∷ []; word = Ended })
    (record { present = true ∷ false ∷ []; word = Bare })
shown = refl

abbrev circuit : Circuit
circuit = record { name = codes "T"; inputs = codes "A" ∷ []; outputs = with_pause; latches = []; tables = [] }

-- where P alone is true, and where the circuit pauses
in_instants : circuit_answer circuit (is_same_name (codes "P")) ∷ circuit_answer circuit (is_same_name (codes "_paused")) ∷ []
    ≡ record { present = false ∷ true ∷ []; word = Ended } ∷ record { present = false ∷ false ∷ []; word = Paused } ∷ []
in_instants = refl

what_is_shown_over_items : (circuit : Circuit) (items : List Item) (answers : List ShownAnswer) → circuit_shows circuit items answers
    → Shows (circuit_machine circuit) (circuit_answer circuit) (circuit_latches circuit) items answers
what_is_shown_over_items circuit items answers h = h

-- each of these circuits is one that some text describes
described : (circuit : Circuit) (text : List ℕ) → reading text ≡ Ok circuit → IsDescribed circuit
described circuit text is = (text, is)
