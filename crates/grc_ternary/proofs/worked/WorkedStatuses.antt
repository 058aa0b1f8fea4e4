-- Worked statuses, by hand: which are unknown and which are true, the or of several, and what the words of formulas say in a state.
use Rattle.std.proofs.Common.{◌≡◌, ℕ, zero, suc, ◌==◌, true, false, if◌then◌else◌, List, [], ◌∷◌, map, refl}
use Rattle.est_kernel.specs.Statuses.{Status, Plus, Minus, Unknown}
use Rattle.est_kernel.specs.Terms.{Term, Nothing, Pause, Seq}
use Rattle.grc_graph.specs.Formulas.{Formula, Const, Boot, Input, Value, Selected, Upto, Kept, Held, Negation, Conjunction, Disjunction, meaning}
use Rattle.grc_graph.specs.Layers.{Resumed}
use Rattle.grc_graph.specs.Walk.{State, Initial, Selecting}
use Rattle.grc_graph.specs.Wires.{Out, End, same_wire}
use Rattle.grc_ternary.specs.LeastSolutions.{Statuses, upto_status, kleene_interpretation, is_plus, true_wires}
use Rattle.grc_ternary.specs.TriRuns.{is_unknown}

abbrev each : List Status
each = Plus ∷ Minus ∷ Unknown ∷ []

which_are_unknown : map is_unknown each ≡ false ∷ false ∷ true ∷ []
which_are_unknown = refl

which_are_true : map is_plus each ≡ true ∷ false ∷ false ∷ []
which_are_true = refl

-- of 0 true, of 1 unknown, of all others false; and of 1 unknown, of 2 true
abbrev numbered : ℕ → Status
numbered zero = Plus
numbered (suc zero) = Unknown
numbered (suc (suc n)) = Minus

abbrev later : ℕ → Status
later zero = Minus
later (suc zero) = Unknown
later (suc (suc zero)) = Plus
later (suc (suc (suc n))) = Minus

up_to_each : map (upto_status numbered) (0 ∷ 1 ∷ 2 ∷ []) ≡ Plus ∷ Plus ∷ Plus ∷ []
up_to_each = refl

up_to_later : map (upto_status later) (0 ∷ 1 ∷ 2 ∷ 3 ∷ []) ≡ Minus ∷ Unknown ∷ Plus ∷ Plus ∷ []
up_to_later = refl

-- the first signal is present, the second is not known, and the body ends with code 1 or, that is not known, with code 0
abbrev statuses : Statuses
statuses = λ w.
    if same_wire w (Out 0) then Plus
    else if same_wire w (Out 1) then Unknown
    else if same_wire w (End 0 Resumed 0) then Unknown
    else if same_wire w (End 0 Resumed 1) then Plus
    else Minus

wires_told : map (true_wires statuses) (Out 0 ∷ Out 1 ∷ Out 2 ∷ End 0 Resumed 1 ∷ []) ≡ true ∷ false ∷ false ∷ true ∷ []
wires_told = refl

-- 0 sequence, 1 nothing, 2 pause
abbrev body : Term
body = Seq Nothing Pause

abbrev said : State → List Formula → List Status
said q formulas = map (meaning (kleene_interpretation body q (λ s. s == 3) statuses)) formulas

words : said Initial (Const true ∷ Const false ∷ Boot ∷ Input 3 ∷ Input 4 ∷ Value (Out 0) ∷ Value (Out 1) ∷ Value (Out 2) ∷ Selected 2 ∷ [])
    ≡ Plus ∷ Minus ∷ Plus ∷ Plus ∷ Minus ∷ Plus ∷ Unknown ∷ Minus ∷ Minus ∷ []
words = refl

in_a_later_state : said (Selecting (λ n. n == 2)) (Boot ∷ Selected 0 ∷ Selected 1 ∷ Selected 2 ∷ Upto 0 Resumed 0 ∷ Upto 0 Resumed 1 ∷ [])
    ≡ Minus ∷ Plus ∷ Minus ∷ Plus ∷ Unknown ∷ Plus ∷ []
in_a_later_state = refl

-- what a state keeps or holds is not said
not_said : said Initial (Kept 0 Resumed ∷ Held 0 Resumed ∷ []) ≡ Unknown ∷ Unknown ∷ []
not_said = refl

operators : said Initial (Negation (Value (Out 0)) ∷ Negation (Value (Out 1)) ∷ Conjunction (Value (Out 0)) (Value (Out 1))
    ∷ Conjunction (Value (Out 1)) (Value (Out 2)) ∷ Disjunction (Value (Out 1)) (Value (Out 2)) ∷ Disjunction (Value (Out 0)) (Value (Out 1)) ∷ [])
    ≡ Minus ∷ Unknown ∷ Unknown ∷ Minus ∷ Unknown ∷ Plus ∷ []
operators = refl
