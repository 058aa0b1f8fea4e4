-- To believe: what a term must do and what it can do in an environment, after Berry, "The Constructive Semantics
-- of Pure Esterel". Must is his Must, Can his Can with the sign +, May his Can with the sign ⊥. The tables are written
-- out anew, one row per form, for the three kinds at once; where they should differ from his, these count.
use Rattle.std.specs.Prelude.{ℕ, Bool, false, not, ◌==◌, ◌&&◌, ◌||◌, if◌then◌else◌}
use Rattle.base_types.specs.Codes.{no_code, only, either, except, maxima, lowered}
use Rattle.est_kernel.specs.Terms.{Term, Nothing, Pause, Emit, Exit, Present, Suspend, Seq, Loop, Par, Trap, Local}
use Rattle.est_kernel.specs.Terms.{Awake}
use Rattle.est_kernel.specs.Statuses.{Status, Plus, Minus, Unknown, Environment, with_status, value}

-- Must is what is known to be done without trying the values of an unknown test, a lower bound. Can and May are what
-- cannot be excluded without trying them: Can where the term is known to run, May where it is not.
pub data PotentialKind : Type 0 where
  Must : PotentialKind
  Can : PotentialKind
  May : PotentialKind

-- a potential: signals that are emitted, and completion codes; both are sets, as tests
pub record Potential : Type 0 where
  pub signals : ℕ → Bool
  pub codes : ℕ → Bool

-- the potentials of a term in an environment, one of each kind
abbrev pub Potentials : Type 0
Potentials = PotentialKind → Potential

-- no signal and no code: nothing is known to be done
abbrev pub idle : Potential
idle = record { signals = λ t. false; codes = no_code }

-- no signal, and one code
abbrev pub completes : ℕ → Potential
completes c = record { signals = λ t. false; codes = only c }

-- one signal, and termination
abbrev pub emits : ℕ → Potential
emits s = record { signals = λ t. t == s; codes = only 0 }

-- the signals of either, and the codes of either
abbrev pub union : Potential → Potential → Potential
union a b = record { signals = λ t. a.signals t || b.signals t; codes = either a.codes b.codes }

-- A choice by a test. True: the first branch. False: the second. Unknown: nothing must be done, and
-- what either branch may do can be done; neither is known to be run.
abbrev pub chosen : Status → Potentials → Potentials → Potentials
chosen Plus a b k = a k
chosen Minus a b k = b k
chosen Unknown a b Must = idle
chosen Unknown a b Can = union (a May) (b May)
chosen Unknown a b May = union (a May) (b May)

-- how the second part of a sequence is taken whose first part can terminate: it must be run only
-- where the whole must be run and the first part must terminate
abbrev pub second_kind : PotentialKind → Potentials → PotentialKind
second_kind Must a = Must
second_kind Can a = if (a Must).codes 0 then Can else May
second_kind May a = May

-- What a sequence keeps of its first part's codes once its second part is reached: Must none, Can and
-- May those other than termination.
abbrev pub codes_kept : PotentialKind → (ℕ → Bool) → ℕ → Bool
codes_kept Must A = no_code
codes_kept Can A = except 0 A
codes_kept May A = except 0 A

-- A sequence of two potentials. Without termination of the first it is the first alone. Else it has the
-- signals of both, what is kept of the first part's codes, and the second part's codes.
abbrev pub sequence : PotentialKind → Potential → Potential → Potential
sequence k a b =
    if a.codes 0
    then record { signals = λ t. a.signals t || b.signals t; codes = either (codes_kept k a.codes) b.codes }
    else a

-- a sequence of two terms
abbrev pub in_turn : Potentials → Potentials → Potentials
in_turn a b k = sequence k (a k) (b (second_kind k a))

-- a parallel: the signals of both branches; all maxima of a code of one and a code of the other
abbrev pub together : Potential → Potential → Potential
together a b = record { signals = λ t. a.signals t || b.signals t; codes = maxima a.codes b.codes }

-- a trap: codes 0 and 2 become 0, 1 stays, k above 2 becomes k - 1
abbrev pub trapped : Potential → Potential
trapped a = record { signals = a.signals; codes = lowered a.codes }

-- a potential without one signal, which the outside does not see
abbrev pub hidden : ℕ → Potential → Potential
hidden s a = record { signals = λ t. a.signals t && not (t == s); codes = a.codes }

-- The status of a local signal, from the potentials of its body with the signal unknown.
-- Must and Can: present where the body must emit it, absent where the body cannot emit it.
-- May: absent where the body may not emit it. Else it stays unknown.
abbrev pub local_status : ℕ → Potentials → PotentialKind → Status
local_status s a Must = if (a Must).signals s then Plus else if (a Can).signals s then Unknown else Minus
local_status s a Can = if (a Must).signals s then Plus else if (a Can).signals s then Unknown else Minus
local_status s a May = if (a May).signals s then Unknown else Minus

-- The potentials of a term, one row per form. A suspension that goes on is a choice: where its test is
-- true it pauses with nothing run, where it is false it is its body.
abbrev pub potential : Term → Environment → PotentialKind → Potential
potential Nothing E k = completes 0
potential Pause E k = completes 1
potential (Emit s) E k = emits s
potential (Exit c) E k = completes c
potential (Present e p q) E k = chosen (value e E) (potential p E) (potential q E) k
potential (Suspend e p) E k = potential p E k
potential (Seq p q) E k = in_turn (potential p E) (potential q E) k
potential (Loop at p) E k = potential p E k
potential (Par p q) E k = together (potential p E k) (potential q E k)
potential (Trap p) E k = trapped (potential p E k)
potential (Local s p) E k =
    hidden s (potential p (with_status E s (local_status s (potential p (with_status E s Unknown)) k)) k)
potential (Awake e p) E k = chosen (value e E) (λ j. completes 1) (potential p E) k

-- what a term must do
abbrev pub must : Term → Environment → Potential
must p E = potential p E Must

-- what a term can do that must be run
abbrev pub can : Term → Environment → Potential
can p E = potential p E Can

-- what a term can do of which it is not known that it must be run
abbrev pub may : Term → Environment → Potential
may p E = potential p E May

-- The status that a term's potentials give to a signal: present where the term must emit it with the
-- signal unknown, absent where it cannot, else unknown.
abbrev pub decided : Term → Environment → ℕ → Status
decided p E s = local_status s (potential p (with_status E s Unknown)) Can
