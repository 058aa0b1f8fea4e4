-- To believe: walks over a program that count what they meet and end at the first fault.
use Rattle.std.specs.Prelude.{ℕ, ◌+◌, nat_lt, nat_le, if◌then◌else◌, List, [], ◌++◌, length, Result, Ok, Err}
use Rattle.base_types.specs.declared.bounds.TheConstants.Limits.{STATEMENTS, SIGNALS}
use Rattle.est_expand.specs.Faults.{FlattenFault, TooManyStatements, TooManySignals}

-- what has been met: the number of statements, the names of the signals by their numbers, and how many signals
-- counts will add to them when they are expanded
pub record WalkCounts : Type 0 where
  pub statements : ℕ
  pub signals : List (List ℕ)
  pub added : ℕ

abbrev pub beginning : WalkCounts
beginning = record { statements = 0; signals = []; added = 0 }

abbrev pub FlatWalk : Type 0 → Type 0
FlatWalk A = WalkCounts → Result (A × WalkCounts) FlattenFault

-- where there is no fault, go on
abbrev pub on_ok : {A B : Type 0} → Result A FlattenFault → (A → Result B FlattenFault) → Result B FlattenFault
on_ok (Ok value) next = next value
on_ok (Err fault) next = Err fault

-- a walk that meets nothing
abbrev pub give : {A : Type 0} → A → FlatWalk A
give value met = Ok (value, met)

abbrev pub stop : {A : Type 0} → FlattenFault → FlatWalk A
stop fault met = Err fault

-- one walk, and then another
abbrev pub after : {A B : Type 0} → FlatWalk A → (A → FlatWalk B) → FlatWalk B
after walk next met = on_ok (walk met) (λ done. next done.0 done.1)

-- a walk that needs something which meets nothing
abbrev pub knowing : {A B : Type 0} → Result A FlattenFault → (A → FlatWalk B) → FlatWalk B
knowing found next met = on_ok found (λ value. next value met)

-- ---- counts

-- one more statement
abbrev pub meet_statement : FlatWalk (Unit {0})
meet_statement met =
    if nat_lt met.statements STATEMENTS then Ok (tt, record met { statements = met.statements + 1 })
    else Err TooManyStatements

-- new signals with these names; the first has the number that is given
abbrev pub meet_signals : List (List ℕ) → FlatWalk ℕ
meet_signals names met =
    if nat_le (length met.signals + length names + met.added) SIGNALS
    then Ok (length met.signals, record met { signals = met.signals ++ names })
    else Err TooManySignals

-- a signal that a count will add
abbrev pub meet_added : FlatWalk (Unit {0})
meet_added met =
    if nat_lt (length met.signals + met.added) SIGNALS then Ok (tt, record met { added = met.added + 1 })
    else Err TooManySignals
