-- Worked lines of answers, by hand.
use Rattle.std.proofs.Common.{◌≡◌, true, false, [], ◌∷◌, codes, refl}
use Rattle.run_trace_io.specs.declared.lines.Word.TheVariants.{Bare, Paused, Ended}
use Rattle.run_over_traces.specs.Languages.{word_of, shown_answer}
use Rattle.run_over_traces.specs.Machines.{answer_lines}

each_answer : answer_lines (codes "O" ∷ codes "P" ∷ [])
    (record { present = true ∷ true ∷ []; word = Paused } ∷ record { present = false ∷ true ∷ []; word = Ended }
    ∷ record { present = false ∷ false ∷ []; word = Bare } ∷ []) ≡ codes "O P | paused\nP | ended\n-\n"
each_answer = refl

no_answer : answer_lines (codes "O" ∷ []) [] ≡ []
no_answer = refl

words : word_of true ∷ word_of false ∷ [] ≡ Paused ∷ Ended ∷ []
words = refl

of_a_net : shown_answer (record { outputs = true ∷ []; paused = false }) ≡ record { present = true ∷ []; word = Ended }
of_a_net = refl
