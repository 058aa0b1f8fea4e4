-- To believe: statuses of signals, and the value of a test (Kleene's three-valued tables).
use Rattle.std.specs.Prelude.{ℕ, Bool, true, false, Option, Some, None, List, ◌==◌, if◌then◌else◌, nat_lt, slice_get}
use Rattle.est_kernel.specs.Terms.{Expression, Tick, Sig, Not, And, Or}

-- what is known of a signal in an instant, and of a test: present (true), absent (false), or not
-- known yet
pub data Status : Type 0 where
  Plus : Status
  Minus : Status
  Unknown : Status

-- a status for each signal
abbrev pub Environment : Type 0
Environment = ℕ → Status

-- the environment with another status for one signal
abbrev pub with_status : Environment → ℕ → Status → Environment
with_status E s v = λ t. if t == s then v else E t

-- the status of a signal that is known
abbrev pub known : Bool → Status
known true = Plus
known false = Minus

-- what is known of an input: nothing, where the event says nothing of it
abbrev pub status_of_input : Option Bool → Status
status_of_input None = Unknown
status_of_input (Some b) = known b

-- what is known at first of any other signal: a signal that is input and output is present where the event
-- gives it; where it does not, the program may still emit it, as any signal that goes out
abbrev pub status_of_other : Option Bool → Status
status_of_other None = Unknown
status_of_other (Some false) = Unknown
status_of_other (Some true) = Plus

-- What an event says of the signals, where so many of them are inputs. Given signal n has the event's place
-- n.
abbrev pub environment_of : ℕ → List Bool → Environment
environment_of inputs event =
    λ s. if nat_lt s inputs then status_of_input (slice_get event s) else status_of_other (slice_get event s)

-- not: true and false change places
abbrev pub opposite : Status → Status
opposite Plus = Minus
opposite Minus = Plus
opposite Unknown = Unknown

-- and: false where one side is false, true where both are true
abbrev pub conjunction : Status → Status → Status
conjunction Minus w = Minus
conjunction Plus w = w
conjunction Unknown Minus = Minus
conjunction Unknown Plus = Unknown
conjunction Unknown Unknown = Unknown

-- or: true where one side is true, false where both are false
abbrev pub disjunction : Status → Status → Status
disjunction Plus w = Plus
disjunction Minus w = w
disjunction Unknown Plus = Plus
disjunction Unknown Minus = Unknown
disjunction Unknown Unknown = Unknown

-- the value of a test; tick is true in every instant
abbrev pub value : Expression → Environment → Status
value Tick E = Plus
value (Sig s) E = E s
value (Not a) E = opposite (value a E)
value (And a b) E = conjunction (value a E) (value b E)
value (Or a b) E = disjunction (value a E) (value b E)
