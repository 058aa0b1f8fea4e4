-- Written by hand: worked examples of the three-valued walk: small terms whose statuses depend on one another, by the definitions alone.
use Rattle.std.specs.Prelude.{◌≡◌, List, [], ◌∷◌, map}
use Rattle.std.proofs.Common.{refl}
use Rattle.est_kernel.specs.Terms.{Term, Sig, Not, Or, Nothing, Pause, Emit, Exit, Present, Suspend, Seq, Par, Trap, Local, Awake}
use Rattle.est_kernel.specs.Statuses.{Status, Plus, Minus, Unknown, Environment}
use Rattle.est_ternary.specs.TriWalks.{tri, tri_decided}
use Rattle.est_ternary.specs.Settled.{solved}
use Rattle.est_ternary.specs.KnownPlaces.{Known}

-- nothing is known
abbrev nothing_known : Environment
nothing_known = λ s. Unknown

-- the statuses that a walk gives to the codes 0 to 2
abbrev codes_of : Term → Status → Environment → List Status
codes_of p g E = map (tri p g E).codes (0 ∷ 1 ∷ 2 ∷ [])

-- present S then emit S end, under its Local: both statuses fit, and none is found
abbrev two_statuses : Term
two_statuses = Present (Sig 0) (Emit 0) Nothing

two_statuses_unknown : tri_decided two_statuses Plus nothing_known 0 ≡ Unknown
two_statuses_unknown = refl

-- so it is not known which branch runs, but the choice terminates in both
two_statuses_end : codes_of (Local 0 two_statuses) Plus nothing_known ≡ Unknown ∷ Minus ∷ Minus ∷ []
two_statuses_end = refl

-- and the walk asks for what is unknown
two_statuses_asked : Known (Local 0 two_statuses) Plus nothing_known → ⊥
two_statuses_asked k = k.1

-- present S then emit S end; emit S: one evaluation with S unknown finds it present
found_present : tri_decided (Seq two_statuses (Emit 0)) Plus nothing_known 0 ≡ Unknown
found_present = refl

-- emit S || present S then emit T end, under both Locals: S is present, so T is
found_in_turn : tri_decided (Local 0 (Par (Emit 0) (Present (Sig 0) (Emit 1) Nothing))) Plus nothing_known 1 ≡ Plus
found_in_turn = refl

-- S or not S is not known where S is not, by Kleene's tables: no law of Boolean algebra is used
excluded_middle : tri_decided (Present (Or (Sig 0) (Not (Sig 0))) (Emit 0) Nothing) Plus nothing_known 0 ≡ Unknown
excluded_middle = refl

-- Two outgoing signals, the first of which waits for the second: emit 1 || present 1 then emit 0 end. One evaluation
-- with both unknown leaves the first unknown; decided one within another both are present.
abbrev one_waits : Term
one_waits = Par (Emit 1) (Present (Sig 1) (Emit 0) Nothing)

one_evaluation : map (tri one_waits Plus nothing_known).signals (0 ∷ 1 ∷ []) ≡ Unknown ∷ Plus ∷ []
one_evaluation = refl

one_within_another : map (solved (0 ∷ 1 ∷ []) one_waits nothing_known) (0 ∷ 1 ∷ []) ≡ Plus ∷ Plus ∷ []
one_within_another = refl

-- the second part of a sequence runs where the first terminates, and that may be unknown
second_part_unknown : map (tri (Seq (Present (Sig 0) Pause Nothing) (Emit 1)) Plus nothing_known).signals (0 ∷ 1 ∷ []) ≡ Minus ∷ Unknown ∷ []
second_part_unknown = refl

-- a parallel ends with the greater code; an exit wins over a pause whatever the test is
exit_wins : codes_of (Par Pause (Present (Sig 0) (Exit 2) (Exit 2))) Plus nothing_known ≡ Minus ∷ Minus ∷ Unknown ∷ []
exit_wins = refl

-- a trap turns code 2 to 0
trap_ends : codes_of (Trap (Exit 2)) Plus nothing_known ≡ Plus ∷ Minus ∷ Minus ∷ []
trap_ends = refl

-- a suspension tests nothing at its start; one that goes on pauses where its test is true
starts_at_once : codes_of (Suspend (Sig 0) Nothing) Plus nothing_known ≡ Plus ∷ Minus ∷ Minus ∷ []
starts_at_once = refl

goes_on : codes_of (Awake (Sig 0) Nothing) Plus nothing_known ≡ Unknown ∷ Unknown ∷ Minus ∷ []
goes_on = refl

-- what does not run asks for nothing
not_asked : Known (Local 0 two_statuses) Minus nothing_known
not_asked = (tt, tt, (tt, tt, tt))
