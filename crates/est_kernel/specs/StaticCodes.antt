-- To believe: the codes that a statement may complete with, whatever the statuses are: in the instant in which
-- it is started, and in later instants in which it is resumed. The codes of a kernel are below 64: there are at
-- most 60 traps one in another. After Berry, "The Constructive Semantics of Pure Esterel", and Tardieu and de Simone,
-- "Instantaneous Termination in Pure Esterel" (2003).
use Rattle.std.specs.Prelude.{◌≡◌, ℕ, Bool, ◌&&◌, ◌||◌, if◌then◌else◌, List, [], ◌∷◌, ◌++◌}
use Rattle.base_types.specs.declared.place.Span.{Span}
use Rattle.base_types.specs.Codes.{no_code, only, either, except, upto, maxima, lowered}
use Rattle.est_kernel.specs.Terms.{Term, Nothing, Pause, Emit, Exit, Present, Suspend, Seq, Loop, Par, Trap, Local}
use Rattle.est_kernel.specs.Terms.{Awake}

-- a set where a condition holds, else the empty set
abbrev pub codes_if : Bool → (ℕ → Bool) → ℕ → Bool
codes_if b A = λ k. b && A k

-- whether a set has a code; the codes of a kernel are below 64
abbrev pub has_code : (ℕ → Bool) → Bool
has_code A = upto A 63

-- the codes of a started statement; of what is left of a suspension those of its body, and the pause
abbrev pub started_codes : Term → ℕ → Bool
started_codes Nothing = only 0
started_codes Pause = only 1
started_codes (Emit s) = only 0
started_codes (Exit k) = only k
started_codes (Present e p q) = either (started_codes p) (started_codes q)
started_codes (Suspend e p) = started_codes p
started_codes (Seq p q) =
    if started_codes p 0 then either (except 0 (started_codes p)) (started_codes q) else started_codes p
started_codes (Loop at p) = except 0 (started_codes p)
started_codes (Par p q) = maxima (started_codes p) (started_codes q)
started_codes (Trap p) = lowered (started_codes p)
started_codes (Local s p) = started_codes p
started_codes (Awake e p) = either (only 1) (started_codes p)

-- a branch of a parallel that goes on: its resumed codes, and 0 where it can have terminated before
abbrev pub branch_codes : (ℕ → Bool) → (ℕ → Bool) → ℕ → Bool
branch_codes started resumed = either resumed (codes_if (started 0 || resumed 0) (only 0))

-- the codes of a resumed statement
abbrev pub resumed_codes : Term → ℕ → Bool
resumed_codes Nothing = no_code
resumed_codes Pause = only 0
resumed_codes (Emit s) = no_code
resumed_codes (Exit k) = no_code
resumed_codes (Present e p q) = either (resumed_codes p) (resumed_codes q)
resumed_codes (Suspend e p) = either (resumed_codes p) (codes_if (has_code (resumed_codes p)) (only 1))
resumed_codes (Seq p q) =
    either (except 0 (resumed_codes p))
    (either (codes_if (resumed_codes p 0) (started_codes q))
    (codes_if (started_codes p 0 || resumed_codes p 0) (resumed_codes q)))
resumed_codes (Loop at p) =
    either (except 0 (resumed_codes p)) (codes_if (resumed_codes p 0) (except 0 (started_codes p)))
resumed_codes (Par p q) =
    codes_if (has_code (resumed_codes p) || has_code (resumed_codes q))
    (maxima (branch_codes (started_codes p) (resumed_codes p))
    (branch_codes (started_codes q) (resumed_codes q)))
resumed_codes (Trap p) = lowered (resumed_codes p)
resumed_codes (Local s p) = resumed_codes p
resumed_codes (Awake e p) = either (only 1) (resumed_codes p)

-- the places of the instantaneous loops, in preorder: of each loop whose body can terminate in the
-- instant in which it starts
abbrev pub instant_loops : Term → List Span
instant_loops Nothing = []
instant_loops Pause = []
instant_loops (Emit s) = []
instant_loops (Exit k) = []
instant_loops (Present e p q) = instant_loops p ++ instant_loops q
instant_loops (Suspend e p) = instant_loops p
instant_loops (Seq p q) = instant_loops p ++ instant_loops q
instant_loops (Loop at p) = (if started_codes p 0 then at ∷ [] else []) ++ instant_loops p
instant_loops (Par p q) = instant_loops p ++ instant_loops q
instant_loops (Trap p) = instant_loops p
instant_loops (Local s p) = instant_loops p
instant_loops (Awake e p) = instant_loops p

-- no loop is instantaneous
abbrev pub NoInstantLoop : Term → Type 0
NoInstantLoop p = instant_loops p ≡ []
