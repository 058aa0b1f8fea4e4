-- Inner: the three-valued walk of a term: with what status it emits each signal and completes with each code, where it
-- runs with a given status and the signals have the statuses of an environment. By Kleene's tables; one walk stands for
-- the three kinds of potentials.
use Rattle.std.specs.Prelude.{ℕ, zero, suc, Bool, not, ◌==◌, if◌then◌else◌}
use Rattle.est_kernel.specs.Terms.{Term, Nothing, Pause, Emit, Exit, Present, Suspend, Seq, Loop, Par, Trap, Local}
use Rattle.est_kernel.specs.Terms.{Awake}
use Rattle.est_kernel.specs.Statuses.{Status, Minus, Unknown, Environment, with_status, value, opposite, conjunction}
use Rattle.est_kernel.specs.Statuses.{disjunction}

-- a status for each signal, whether it is emitted, and for each code, whether the term completes with it
pub record Tri : Type 0 where
  pub signals : ℕ → Status
  pub codes : ℕ → Status

-- a status where a condition holds, else absent
abbrev pub where_met : Bool → Status → Status
where_met b v = if b then v else Minus

-- no signal and no code
abbrev pub tri_idle : Tri
tri_idle = record { signals = λ t. Minus; codes = λ k. Minus }

-- no signal, and one code, where it runs
abbrev pub tri_completes : ℕ → Status → Tri
tri_completes c g = record { signals = λ t. Minus; codes = λ k. where_met (k == c) g }

-- one signal, and termination, where it runs
abbrev pub tri_emits : ℕ → Status → Tri
tri_emits s g = record { signals = λ t. where_met (t == s) g; codes = λ k. where_met (k == 0) g }

-- of two parts either
abbrev pub tri_either : Tri → Tri → Tri
tri_either a b = record {
  signals = λ t. disjunction (a.signals t) (b.signals t);
  codes = λ k. disjunction (a.codes k) (b.codes k);
}

-- a sequence whose second part was walked where the first terminates: the signals of both, the first part's codes
-- other than termination, and the second part's codes
abbrev pub tri_in_turn : Tri → Tri → Tri
tri_in_turn a b = record {
  signals = λ t. disjunction (a.signals t) (b.signals t);
  codes = λ k. disjunction (where_met (not (k == 0)) (a.codes k)) (b.codes k);
}

-- the status that some code is at most k
abbrev pub tri_upto : (ℕ → Status) → ℕ → Status
tri_upto A zero = A 0
tri_upto A (suc k) = disjunction (tri_upto A k) (A (suc k))

-- a parallel ends with k where both branches end with at most k, and one of them with k
abbrev pub tri_maxima : (A B : ℕ → Status) → ℕ → Status
tri_maxima A B = λ k. conjunction (tri_upto A k) (conjunction (tri_upto B k) (disjunction (A k) (B k)))

abbrev pub tri_together : Tri → Tri → Tri
tri_together a b = record {
  signals = λ t. disjunction (a.signals t) (b.signals t);
  codes = tri_maxima a.codes b.codes;
}

-- what a trap makes of the codes of its body: 0 and 2 become 0, 1 stays, k above 2 becomes k - 1
abbrev pub tri_lowered : (ℕ → Status) → ℕ → Status
tri_lowered A zero = disjunction (A 0) (A 2)
tri_lowered A (suc zero) = A 1
tri_lowered A (suc (suc k)) = A (suc (suc (suc k)))

abbrev pub tri_trapped : Tri → Tri
tri_trapped a = record { signals = a.signals; codes = tri_lowered a.codes }

-- without one signal, which the outside does not see
abbrev pub tri_hidden : ℕ → Tri → Tri
tri_hidden s a = record { signals = λ t. where_met (not (t == s)) (a.signals t); codes = a.codes }

-- The walk of a term that runs with status g, one row per form. The status of a local signal is what the walk of the
-- body with the signal unknown gives it. A suspension that goes on pauses where its test is true, and else is its body.
abbrev pub tri : Term → Status → Environment → Tri
tri Nothing g E = tri_completes 0 g
tri Pause g E = tri_completes 1 g
tri (Emit s) g E = tri_emits s g
tri (Exit c) g E = tri_completes c g
tri (Present e p q) g E =
    tri_either (tri p (conjunction g (value e E)) E) (tri q (conjunction g (opposite (value e E))) E)
tri (Suspend e p) g E = tri p g E
tri (Seq p q) g E = tri_in_turn (tri p g E) (tri q ((tri p g E).codes 0) E)
tri (Loop at p) g E = tri p g E
tri (Par p q) g E = tri_together (tri p g E) (tri q g E)
tri (Trap p) g E = tri_trapped (tri p g E)
tri (Local s p) g E = tri_hidden s (tri p g (with_status E s ((tri p g (with_status E s Unknown)).signals s)))
tri (Awake e p) g E =
    tri_either (tri_completes 1 (conjunction g (value e E))) (tri p (conjunction g (opposite (value e E))) E)

-- the status that the walk of a body gives a local signal
abbrev pub tri_decided : Term → Status → Environment → ℕ → Status
tri_decided p g E s = (tri p g (with_status E s Unknown)).signals s
