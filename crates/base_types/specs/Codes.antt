-- To believe: sets of completion codes, as tests: what the set has, the test answers with true.
-- 0 is termination, 1 a pause, and k of at least 2 leaves the trap that is k - 2 traps further out
-- (Berry, "The Constructive Semantics of Pure Esterel").
use Rattle.std.specs.Prelude.{ℕ, zero, suc, Bool, false, not, ◌==◌, ◌&&◌, ◌||◌}

-- the empty set
abbrev pub no_code : ℕ → Bool
no_code = λ k. false

-- the set with one code
abbrev pub only : ℕ → ℕ → Bool
only c = λ k. k == c

-- the codes of either set
abbrev pub either : (ℕ → Bool) → (ℕ → Bool) → ℕ → Bool
either A B = λ k. A k || B k

-- the codes of a set other than one
abbrev pub except : ℕ → (ℕ → Bool) → ℕ → Bool
except c A = λ k. A k && not (k == c)

-- whether some code of the set is at most k
abbrev pub upto : (ℕ → Bool) → ℕ → Bool
upto A zero = A 0
upto A (suc k) = upto A k || A (suc k)

-- the maxima of all pairs of a code of one set and a code of the other: what a parallel statement
-- completes with
abbrev pub maxima : (ℕ → Bool) → (ℕ → Bool) → ℕ → Bool
maxima A B = λ k. A k && upto B k || B k && upto A k

-- what a trap makes of the codes of its body: 0 and 2 become 0, 1 stays, k above 2 becomes k - 1
abbrev pub lowered : (ℕ → Bool) → ℕ → Bool
lowered A zero = A 0 || A 2
lowered A (suc zero) = A 1
lowered A (suc (suc k)) = A (suc (suc (suc k)))
