-- Written by hand: worked examples of the static tables: codes by preorder, sizes, relations, and what is well formed.
use Rattle.std.specs.Prelude.{◌≡◌, ℕ, ◌+◌, Bool, true, false, List, [], ◌∷◌, filter, map, nat_lt}
use Rattle.std.proofs.Common.{refl, arith}
use Rattle.std.proofs.lemmas.Bool.{false≢true}
use Rattle.base_types.specs.declared.place.Span.{Span}
use Rattle.est_kernel.specs.Statuses.{Status, Plus, Minus, Unknown, opposite, conjunction, disjunction}
use Rattle.est_kernel.specs.Terms.{Term, Tick, Sig, Not, And, Or, Nothing, Pause, Emit, Exit, Present, Suspend, Seq, Loop, Par, Trap, Local}
use Rattle.est_kernel.specs.StaticCodes.{started_codes, resumed_codes, instant_loops}
use Rattle.est_kernel.specs.Sizes.{size_of, height_of, trap_depth}
use Rattle.est_kernel.specs.Preorder.{preorder, statement_count}
use Rattle.base_types.specs.Relations.{Implies, Excludes, Meets}
use Rattle.est_kernel.specs.WellFormed.{ExitsStandInTraps, SignalsFit}

-- the place of a loop
abbrev place : ℕ → Span
place n = record { start = n; end = n + 1 }

-- the codes of a set below 4
abbrev codes : (ℕ → Bool) → List ℕ
codes A = filter A (0 ∷ 1 ∷ 2 ∷ 3 ∷ [])

-- every form: inputs 0 and 1, output 2
-- signal S in trap T in
--   suspend [pause; emit O] when [not A and tick]
--   || [present [A or S] then exit T else nothing end || loop pause end]
-- end end
abbrev every_form : Term
every_form =
    Local 3 (Trap (Par
    (Suspend (And (Not (Sig 0)) Tick) (Seq Pause (Emit 2)))
    (Par (Present (Or (Sig 0) (Sig 3)) (Exit 2) Nothing) (Loop (place 0) Pause))))

every_form_size : size_of every_form ≡ 20
every_form_size = refl

every_form_height : height_of every_form ≡ 7
every_form_height = refl

every_form_statements : statement_count every_form ≡ 13
every_form_statements = refl

every_form_started : map (λ p. codes (started_codes p)) (preorder every_form)
    ≡ (0 ∷ 1 ∷ []) ∷ (0 ∷ 1 ∷ []) ∷ (1 ∷ 2 ∷ []) ∷ (1 ∷ []) ∷ (1 ∷ []) ∷ (1 ∷ []) ∷ (0 ∷ [])
    ∷ (1 ∷ 2 ∷ []) ∷ (0 ∷ 2 ∷ []) ∷ (2 ∷ []) ∷ (0 ∷ []) ∷ (1 ∷ []) ∷ (1 ∷ []) ∷ []
every_form_started = refl

every_form_resumed : map (λ p. codes (resumed_codes p)) (preorder every_form)
    ≡ (1 ∷ []) ∷ (1 ∷ []) ∷ (1 ∷ []) ∷ (0 ∷ 1 ∷ []) ∷ (0 ∷ []) ∷ (0 ∷ []) ∷ []
    ∷ (1 ∷ []) ∷ [] ∷ [] ∷ [] ∷ (1 ∷ []) ∷ (0 ∷ []) ∷ []
every_form_resumed = refl

-- output A, B; loop trap T in [pause; emit A; exit T] || [loop pause; emit B end] end end
abbrev restarted_parallel : Term
restarted_parallel =
    Loop (place 0) (Trap (Par (Seq Pause (Seq (Emit 0) (Exit 2))) (Loop (place 1) (Seq Pause (Emit 1)))))

restarted_parallel_started : map (λ p. codes (started_codes p)) (preorder restarted_parallel)
    ≡ (1 ∷ []) ∷ (1 ∷ []) ∷ (1 ∷ []) ∷ (1 ∷ []) ∷ (1 ∷ []) ∷ (2 ∷ []) ∷ (0 ∷ [])
    ∷ (2 ∷ []) ∷ (1 ∷ []) ∷ (1 ∷ []) ∷ (1 ∷ []) ∷ (0 ∷ []) ∷ []
restarted_parallel_started = refl

restarted_parallel_resumed : map (λ p. codes (resumed_codes p)) (preorder restarted_parallel)
    ≡ (1 ∷ []) ∷ (0 ∷ []) ∷ (2 ∷ []) ∷ (2 ∷ []) ∷ (0 ∷ []) ∷ [] ∷ []
    ∷ [] ∷ (1 ∷ []) ∷ (0 ∷ []) ∷ (0 ∷ []) ∷ [] ∷ []
restarted_parallel_resumed = refl

restarted_parallel_size : size_of restarted_parallel ≡ 12
restarted_parallel_size = refl

restarted_parallel_height : height_of restarted_parallel ≡ 6
restarted_parallel_height = refl

-- output O; emit O; pause; emit O
abbrev one_pause : Term
one_pause = Seq (Emit 0) (Seq Pause (Emit 0))

one_pause_started : map (λ p. codes (started_codes p)) (preorder one_pause)
    ≡ (1 ∷ []) ∷ (0 ∷ []) ∷ (1 ∷ []) ∷ (1 ∷ []) ∷ (0 ∷ []) ∷ []
one_pause_started = refl

one_pause_resumed : map (λ p. codes (resumed_codes p)) (preorder one_pause)
    ≡ (0 ∷ []) ∷ [] ∷ (0 ∷ []) ∷ (0 ∷ []) ∷ [] ∷ []
one_pause_resumed = refl

-- a test counts for the size and the height
test_counts_for_size : size_of (Present (Or (Sig 0) (Not (Sig 1))) Nothing Pause) ≡ 7
test_counts_for_size = refl

test_counts_for_height : height_of (Present (Or (Sig 0) (Not (Sig 1))) Nothing Pause) ≡ 4
test_counts_for_height = refl

-- the places of instantaneous loops, the outer one first
instant_loops_found : instant_loops (Loop (place 5) (Seq (Loop (place 3) (Emit 0)) (Loop (place 4) Pause))) ≡ place 3 ∷ []
instant_loops_found = refl

both_instant_loops_found : instant_loops (Loop (place 5) (Present Tick (Loop (place 3) Nothing) Nothing)) ≡ place 5 ∷ place 3 ∷ []
both_instant_loops_found = refl

-- three traps, two of them one in another
traps_nested : trap_depth (Seq (Trap Nothing) (Trap (Trap (Exit 3)))) ≡ 2
traps_nested = refl

-- an exit outside the trap that it leaves
exit_without_trap : ExitsStandInTraps 0 (Trap (Exit 3)) → ⊥
exit_without_trap h = omega (arith, h.1)

exit_in_its_trap : ExitsStandInTraps 0 (Trap (Seq (Trap (Exit 3)) (Exit 2)))
exit_in_its_trap = ((omega arith, omega arith), (omega arith, omega arith))

-- a local signal tested outside its Local, and an input that is emitted
local_outside : SignalsFit 1 2 3 (λ s. nat_lt s 2) (Present (Sig 2) Nothing Nothing) → ⊥
local_outside h = false≢true h.0

input_emitted : SignalsFit 1 2 3 (λ s. nat_lt s 2) (Emit 0) → ⊥
input_emitted h = omega (arith, h.1)

signals_fit : SignalsFit 1 2 3 (λ s. nat_lt s 2) (Local 2 (Seq (Emit 1) (Present (And (Sig 0) (Sig 2)) (Emit 2) Nothing)))
signals_fit = (omega arith, omega arith, ((refl, omega arith), ((refl, refl), (refl, omega arith), tt)))

-- A => B, over A, over B and over both
implication_broken : Meets (true ∷ false ∷ []) (Implies 0 1) → ⊥
implication_broken h = false≢true (h refl)

implication_met : Meets (false ∷ true ∷ []) (Implies 0 1)
implication_met h = absurd (false≢true h)

implication_met_by_both : Meets (true ∷ true ∷ []) (Implies 0 1)
implication_met_by_both h = refl

-- A # B, over both
exclusion_broken : Meets (true ∷ true ∷ []) (Excludes (0 ∷ 1 ∷ [])) → ⊥
exclusion_broken h = h 0 1 (0, omega arith, refl) (1, omega arith, refl) (λ e. omega arith) refl refl

-- ---- Kleene's tables

abbrev all : List Status
all = Plus ∷ Unknown ∷ Minus ∷ []

not_table : map opposite all ≡ Minus ∷ Unknown ∷ Plus ∷ []
not_table = refl

and_table : map (λ v. map (conjunction v) all) all ≡ (Plus ∷ Unknown ∷ Minus ∷ []) ∷ (Unknown ∷ Unknown ∷ Minus ∷ []) ∷ (Minus ∷ Minus ∷ Minus ∷ []) ∷ []
and_table = refl

or_table : map (λ v. map (disjunction v) all) all ≡ (Plus ∷ Plus ∷ Plus ∷ []) ∷ (Plus ∷ Unknown ∷ Unknown ∷ []) ∷ (Plus ∷ Unknown ∷ Minus ∷ []) ∷ []
or_table = refl
