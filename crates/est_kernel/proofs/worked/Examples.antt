-- Written by hand: worked examples: programs of known meaning, run by the definitions alone. The answers come from the programs' descriptions, not
-- from the definitions.
use Rattle.std.specs.Prelude.{◌≡◌, ℕ, Bool, true, false, List, [], ◌∷◌, map, Option, Some, None}
use Rattle.std.proofs.Common.{refl}
use Rattle.base_types.specs.declared.place.Span.{Span}
use Rattle.est_kernel.specs.Terms.{Term, Tick, Sig, Not, And, Or, Nothing, Pause, Emit, Exit, Present, Suspend, Seq, Loop, Par, Trap, Local}
use Rattle.base_types.specs.Items.{Event, Reset}
use Rattle.est_kernel.specs.Reactions.{Answer, run}

-- the place of every loop here
abbrev here : Span
here = record { start = 0; end = 0 }

-- an instant with these outputs that leaves the program paused
abbrev paused : List Bool → Answer
paused outs = record { outputs = outs; code = 1 }

-- an instant with these outputs after which nothing is left
abbrev ended : List Bool → Answer
ended outs = record { outputs = outs; code = 0 }

-- the run of a body over events, where so many signals are inputs and these go out
abbrev runs : ℕ → List ℕ → Term → List (List Bool) → Option (List Answer)
runs inputs outs body events = run (record { inputs = inputs; outgoing = outs }) body (map Event events)

-- a list of one truth value
abbrev one : Bool → List Bool
one b = b ∷ []

-- await of signal n: the first instant after the start in which it is present
abbrev await_signal : ℕ → Term
await_signal n = Trap (Loop here (Seq Pause (Present (Sig n) (Exit 2) Nothing)))

-- Berry's ABRO: inputs A, B, R are 0, 1, 2 and output O is 3.
-- loop [await A || await B]; emit O each R
abbrev abro : Term
abro =
    Loop here (Trap (Par
    (Seq (Suspend (Sig 2) (Seq (Seq (Par (await_signal 0) (await_signal 1)) (Emit 3)) (Loop here Pause))) (Exit 2))
    (Loop here (Seq Pause (Present (Sig 2) (Exit 2) Nothing)))))

-- Over nothing; A; B; A and B; R; A; A, B and R. In the last instant the strong abort wins over the
-- emission that B alone would bring.
abro_runs : runs 3 (3 ∷ []) abro
    ((false ∷ false ∷ false ∷ []) ∷ (true ∷ false ∷ false ∷ []) ∷ (false ∷ true ∷ false ∷ [])
    ∷ (true ∷ true ∷ false ∷ []) ∷ (false ∷ false ∷ true ∷ []) ∷ (true ∷ false ∷ false ∷ [])
    ∷ (true ∷ true ∷ true ∷ []) ∷ [])
    ≡ Some (paused (one false) ∷ paused (one false) ∷ paused (one true) ∷ paused (one false)
    ∷ paused (one false) ∷ paused (one false) ∷ paused (one false) ∷ [])
abro_runs = refl

-- nothing is held: the program ends at once, and stays ended
nothing_held : runs 0 [] Nothing ([] ∷ [] ∷ []) ≡ Some (ended [] ∷ ended [] ∷ [])
nothing_held = refl

-- no instant, no answer
no_instant : runs 0 [] Nothing [] ≡ Some []
no_instant = refl

-- output O; emit O; pause; emit O
one_pause : runs 0 (0 ∷ []) (Seq (Emit 0) (Seq Pause (Emit 0))) ([] ∷ [] ∷ [] ∷ [])
    ≡ Some (paused (one true) ∷ ended (one true) ∷ ended (one false) ∷ [])
one_pause = refl

-- Each start of the loop's body has a signal S of its own, so O is never emitted.
-- output O; loop signal S in present S then emit O end; pause; emit S end end
reincarnation : runs 0 (0 ∷ [])
    (Loop here (Local 1 (Seq (Present (Sig 1) (Emit 0) Nothing) (Seq Pause (Emit 1)))))
    ([] ∷ [] ∷ [] ∷ [])
    ≡ Some (paused (one false) ∷ paused (one false) ∷ paused (one false) ∷ [])
reincarnation = refl

-- the first branch leaves the trap, and the loop starts both branches again in the same instant
-- output A, B; loop trap T in [pause; emit A; exit T] || [loop pause; emit B end] end end
restarted_parallel : runs 0 (0 ∷ 1 ∷ [])
    (Loop here (Trap (Par (Seq Pause (Seq (Emit 0) (Exit 2))) (Loop here (Seq Pause (Emit 1))))))
    ([] ∷ [] ∷ [] ∷ [])
    ≡ Some (paused (false ∷ false ∷ []) ∷ paused (true ∷ true ∷ []) ∷ paused (true ∷ true ∷ []) ∷ [])
restarted_parallel = refl

-- either status of S would fit, so neither is derived
-- signal S in present S then emit S end end
two_statuses_fit : runs 0 [] (Local 0 (Present (Sig 0) (Emit 0) Nothing)) ([] ∷ []) ≡ None
two_statuses_fit = refl

-- no status of S would fit
-- signal S in present S else emit S end end
no_status_fits : runs 0 [] (Local 0 (Present (Sig 0) Nothing (Emit 0))) ([] ∷ []) ≡ None
no_status_fits = refl

-- S1 and S2 depend on one another, each under one value of A: the reactions are constructive
-- input A; signal S1, S2 in present A then present S1 then emit S2 end else present S2 then emit S1 end end end
cyclic_and_constructive : runs 1 []
    (Local 1 (Local 2 (Present (Sig 0) (Present (Sig 1) (Emit 2) Nothing) (Present (Sig 2) (Emit 1) Nothing))))
    (one false ∷ [])
    ≡ Some (ended [] ∷ [])
cyclic_and_constructive = refl

cyclic_and_constructive_with_input : runs 1 []
    (Local 1 (Local 2 (Present (Sig 0) (Present (Sig 1) (Emit 2) Nothing) (Present (Sig 2) (Emit 1) Nothing))))
    (one true ∷ [])
    ≡ Some (ended [] ∷ [])
cyclic_and_constructive_with_input = refl

-- two exits at once: the outer trap wins, so A is not emitted
-- output A, B; trap T in trap U in [exit T || exit U] end; emit A end; emit B
outer_trap_wins : runs 0 (0 ∷ 1 ∷ []) (Seq (Trap (Seq (Trap (Par (Exit 3) (Exit 2))) (Emit 0))) (Emit 1)) ([] ∷ [])
    ≡ Some (ended (false ∷ true ∷ []) ∷ [])
outer_trap_wins = refl

-- a suspension does not test in the instant in which it starts
-- input S; output O; suspend [emit O; pause; emit O] when S
no_test_at_start : runs 1 (1 ∷ []) (Suspend (Sig 0) (Seq (Emit 1) (Seq Pause (Emit 1))))
    (one true ∷ one true ∷ one false ∷ [])
    ≡ Some (paused (one true) ∷ paused (one false) ∷ ended (one true) ∷ [])
no_test_at_start = refl

-- a weak abort lets its body run in the instant in which it ends
-- input A; output O; weak abort loop emit O; pause end when A
weak_abort : runs 1 (1 ∷ [])
    (Trap (Par (Seq (Loop here (Seq (Emit 1) Pause)) (Exit 2)) (Seq (await_signal 0) (Exit 2))))
    (one false ∷ one true ∷ [])
    ≡ Some (paused (one true) ∷ ended (one true) ∷ [])
weak_abort = refl

-- a strong abort does not
-- input A; output O; abort loop emit O; pause end when A
strong_abort : runs 1 (1 ∷ [])
    (Trap (Par
    (Seq (Suspend (Sig 0) (Loop here (Seq (Emit 1) Pause))) (Exit 2))
    (Loop here (Seq Pause (Present (Sig 0) (Exit 2) Nothing)))))
    (one false ∷ one true ∷ [])
    ≡ Some (paused (one true) ∷ ended (one false) ∷ [])
strong_abort = refl

-- Of a branch of which it is not known that it is run, no local status is derived as present: T is not,
-- so S can be emitted.
-- signal S in present S then signal T in emit T; present T else emit S end end end end
branch_that_may_run : runs 0 [] (Local 0 (Present (Sig 0) (Local 1 (Seq (Emit 1) (Present (Sig 1) Nothing (Emit 0)))) Nothing)) ([] ∷ [])
    ≡ None
branch_that_may_run = refl

-- the same after a part of which it is not known that it terminates
-- signal S in present S then pause end; signal T in emit T; present T else emit S end end end
part_that_may_run : runs 0 [] (Local 0 (Seq (Present (Sig 0) Pause Nothing) (Local 1 (Seq (Emit 1) (Present (Sig 1) Nothing (Emit 0)))))) ([] ∷ [])
    ≡ None
part_that_may_run = refl

-- after a part that must terminate T is present, so S cannot be emitted
-- output O, P; signal S in emit P; signal T in emit T; present T else emit S end end; present S then emit O end end
part_that_must_run : runs 0 (0 ∷ 1 ∷ []) (Local 2 (Seq (Emit 1) (Seq (Local 3 (Seq (Emit 3) (Present (Sig 3) Nothing (Emit 2))))
    (Present (Sig 2) (Emit 0) Nothing)))) ([] ∷ [])
    ≡ Some (ended (false ∷ true ∷ []) ∷ [])
part_that_must_run = refl

-- an output is known to those after it
-- output A, B; emit A; present A then emit B end
earlier_output_tested : runs 0 (0 ∷ 1 ∷ []) (Seq (Emit 0) (Present (Sig 0) (Emit 1) Nothing)) ([] ∷ [])
    ≡ Some (ended (true ∷ true ∷ []) ∷ [])
earlier_output_tested = refl

-- and an output can depend on one that is declared after it
-- output A, B; emit B; present B then emit A end
later_output_tested : runs 0 (0 ∷ 1 ∷ []) (Seq (Emit 1) (Present (Sig 1) (Emit 0) Nothing)) ([] ∷ [])
    ≡ Some (ended (true ∷ true ∷ []) ∷ [])
later_output_tested = refl

-- one local number bound inside itself: what is emitted inside is not seen outside, nor the other way
local_not_seen_outside : runs 0 (0 ∷ []) (Local 1 (Seq (Local 1 (Emit 1)) (Present (Sig 1) (Emit 0) Nothing))) ([] ∷ [])
    ≡ Some (ended (one false) ∷ [])
local_not_seen_outside = refl

nearest_local_counts : runs 0 (0 ∷ []) (Local 1 (Seq (Emit 1) (Local 1 (Present (Sig 1) (Emit 0) Nothing)))) ([] ∷ [])
    ≡ Some (ended (one false) ∷ [])
nearest_local_counts = refl

-- a loop whose body terminates in the instant in which it starts has no step
instantaneous_loop : runs 0 [] (Loop here Nothing) ([] ∷ []) ≡ None
instantaneous_loop = refl

-- a suspension holds its body where it stands
-- input S; output O; suspend [pause; emit O; pause; emit O] when S
suspension_holds : runs 1 (1 ∷ []) (Suspend (Sig 0) (Seq Pause (Seq (Emit 1) (Seq Pause (Emit 1)))))
    (one false ∷ one true ∷ one false ∷ one true ∷ one false ∷ [])
    ≡ Some (paused (one false) ∷ paused (one false) ∷ paused (one true) ∷ paused (one false) ∷ ended (one true) ∷ [])
suspension_holds = refl

-- a parallel ends with its last branch
-- output O, P; [pause; emit O] || [pause; pause; emit P]
parallel_ends_with_last : runs 0 (0 ∷ 1 ∷ []) (Par (Seq Pause (Emit 0)) (Seq Pause (Seq Pause (Emit 1)))) ([] ∷ [] ∷ [] ∷ [] ∷ [])
    ≡ Some (paused (false ∷ false ∷ []) ∷ paused (true ∷ false ∷ []) ∷ ended (false ∷ true ∷ []) ∷ ended (false ∷ false ∷ []) ∷ [])
parallel_ends_with_last = refl

-- an exit wins over a pause, and nothing of the other branch is left
-- output O; trap T in [pause; emit O] || exit T end
exit_wins_over_pause : runs 0 (0 ∷ []) (Trap (Par (Seq Pause (Emit 0)) (Exit 2))) ([] ∷ [] ∷ [])
    ≡ Some (ended (one false) ∷ ended (one false) ∷ [])
exit_wins_over_pause = refl

-- an exit passes an inner trap
-- output O; trap T in trap U in pause; exit T end; emit O end
exit_passes_inner_trap : runs 0 (0 ∷ []) (Trap (Seq (Trap (Seq Pause (Exit 3))) (Emit 0))) ([] ∷ [] ∷ [])
    ≡ Some (paused (one false) ∷ ended (one false) ∷ [])
exit_passes_inner_trap = refl

-- a conjunction is false where one side is false, whatever the other is
-- input A; output O; signal S in present [A and S] then emit S else emit O end end
conjunction_with_absent : runs 1 (1 ∷ []) (Local 2 (Present (And (Sig 0) (Sig 2)) (Emit 2) (Emit 1))) (one false ∷ [])
    ≡ Some (ended (one true) ∷ [])
conjunction_with_absent = refl

conjunction_with_present : runs 1 (1 ∷ []) (Local 2 (Present (And (Sig 0) (Sig 2)) (Emit 2) (Emit 1))) (one true ∷ []) ≡ None
conjunction_with_present = refl

-- a disjunction is true where one side is true, whatever the other is
-- input A; output O; signal S in present [A or S] then emit O else emit S end end
disjunction_with_present : runs 1 (1 ∷ []) (Local 2 (Present (Or (Sig 0) (Sig 2)) (Emit 1) (Emit 2))) (one true ∷ [])
    ≡ Some (ended (one true) ∷ [])
disjunction_with_present = refl

disjunction_with_absent : runs 1 (1 ∷ []) (Local 2 (Present (Or (Sig 0) (Sig 2)) (Emit 1) (Emit 2))) (one false ∷ []) ≡ None
disjunction_with_absent = refl

-- input A; output O; present not A then emit O end, over nothing and over A
negation : runs 1 (1 ∷ []) (Loop here (Seq (Present (Not (Sig 0)) (Emit 1) Nothing) Pause)) (one false ∷ one true ∷ [])
    ≡ Some (paused (one true) ∷ paused (one false) ∷ [])
negation = refl

-- output O; present tick then emit O end
tick_is_true : runs 0 (0 ∷ []) (Present Tick (Emit 0) Nothing) ([] ∷ []) ≡ Some (ended (one true) ∷ [])
tick_is_true = refl

-- An inputoutput is present where it is given or emitted, and what tests it sees either.
-- input A; inputoutput X; output O;
-- [loop present X then emit O end; pause end] || [loop present A then emit X end; pause end], over X; A; nothing
given_or_emitted : run (record { inputs = 1; outgoing = 1 ∷ 2 ∷ [] })
    (Par (Loop here (Seq (Present (Sig 1) (Emit 2) Nothing) Pause)) (Loop here (Seq (Present (Sig 0) (Emit 1) Nothing) Pause)))
    (Event (false ∷ true ∷ []) ∷ Event (true ∷ false ∷ []) ∷ Event (false ∷ false ∷ []) ∷ [])
    ≡ Some (paused (true ∷ true ∷ []) ∷ paused (true ∷ true ∷ []) ∷ paused (false ∷ false ∷ []) ∷ [])
given_or_emitted = refl

-- An inputoutput that is emitted where it is absent has no reaction where it is not given, and one where it
-- is. inputoutput X; present X else emit X end
emits_itself_where_absent : run (record { inputs = 0; outgoing = 0 ∷ [] }) (Present (Sig 0) Nothing (Emit 0)) (Event (one false) ∷ []) ≡ None
emits_itself_where_absent = refl

emits_itself_where_given : run (record { inputs = 0; outgoing = 0 ∷ [] }) (Present (Sig 0) Nothing (Emit 0)) (Event (one true) ∷ []) ≡
    Some (ended (one true) ∷ [])
emits_itself_where_given = refl

-- a given inputoutput is passed over: were it decided with the rest, it would be absent here
-- inputoutput X; nothing, over X; nothing
given_after_the_end : run (record { inputs = 0; outgoing = 0 ∷ [] }) Nothing (Event (one true) ∷ Event (one false) ∷ [])
    ≡ Some (ended (one true) ∷ ended (one false) ∷ [])
given_after_the_end = refl

-- a reset in the middle of one pause: it has no answer, and the program starts again
-- output O; emit O; pause; emit O, over nothing; reset; nothing; nothing
reset_in_a_pause : run (record { inputs = 0; outgoing = 0 ∷ [] }) (Seq (Emit 0) (Seq Pause (Emit 0)))
    (Event [] ∷ Reset ∷ Event [] ∷ Event [] ∷ [])
    ≡ Some (paused (one true) ∷ paused (one true) ∷ ended (one true) ∷ [])
reset_in_a_pause = refl

-- resets alone have no answer
resets_alone : run (record { inputs = 0; outgoing = [] }) Nothing (Reset ∷ Reset ∷ []) ≡ Some []
resets_alone = refl
