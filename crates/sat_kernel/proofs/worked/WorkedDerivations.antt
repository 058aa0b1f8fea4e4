-- Worked derivations, by hand.
use Rattle.std.proofs.Common.{◌≡◌, ℕ, zero, suc, Bool, true, false, List, [], ◌∷◌, Some, None, refl}
use Rattle.std.specs.Prelude.{Option}
use Rattle.sat_kernel.specs.declared.literals.Literal.{Literal}
use Rattle.sat_kernel.specs.declared.literals.Premise.TheVariants.{Assumed, Derived}
use Rattle.sat_kernel.specs.declared.marks.Mark.TheVariants.{Unknown, False, True}
use Rattle.sat_kernel.specs.declared.propagation.ClauseState.TheVariants.{Conflict, Unit, Open}
use Rattle.sat_kernel.specs.Clauses.{Derivation, clause_value, literal_value}
use Rattle.sat_kernel.specs.Propagation.{denied, is_implied_along, clause_state}

abbrev yes : ℕ → Literal
yes x = record { variable = x; positive = true }

abbrev no : ℕ → Literal
no x = record { variable = x; positive = false }

-- 0 or 1; not 0 or 1; 0 or not 1; not 0 or not 1
abbrev square : List (List Literal)
square = (yes 0 ∷ yes 1 ∷ []) ∷ (no 0 ∷ yes 1 ∷ []) ∷ (yes 0 ∷ no 1 ∷ []) ∷ (no 0 ∷ no 1 ∷ []) ∷ []

abbrev with_derived : List (Option (List Literal)) → Derivation
with_derived derived = record { variables = 2; assumed = square; derived = derived }

abbrev only_one : ℕ → Bool
only_one zero = false
only_one (suc x) = true

a_literal_and_its_negation : (literal_value only_one (yes 1) ≡ true) × (literal_value only_one (no 1) ≡ false)
a_literal_and_its_negation = (refl, refl)

no_literal_of_the_empty_clause : clause_value only_one [] ≡ false
no_literal_of_the_empty_clause = refl

a_clause_is_met_by_one_literal : clause_value only_one (yes 0 ∷ yes 1 ∷ []) ≡ true
a_clause_is_met_by_one_literal = refl

-- 1 follows by the first two clauses, and then nothing is left
one_is_derived : is_implied_along (with_derived []) (yes 1 ∷ []) (Assumed 0 ∷ Assumed 1 ∷ []) ≡ true
one_is_derived = refl

then_the_empty_clause : is_implied_along (with_derived (Some (yes 1 ∷ []) ∷ [])) [] (Derived 0 ∷ Assumed 2 ∷ Assumed 3 ∷ []) ≡ true
then_the_empty_clause = refl

not_in_the_other_order : is_implied_along (with_derived (Some (yes 1 ∷ []) ∷ [])) [] (Assumed 2 ∷ Derived 0 ∷ Assumed 3 ∷ []) ≡ false
not_in_the_other_order = refl

a_forgotten_clause_is_no_hint : is_implied_along (with_derived (None ∷ [])) [] (Derived 0 ∷ Assumed 2 ∷ Assumed 3 ∷ []) ≡ false
a_forgotten_clause_is_no_hint = refl

a_hint_past_the_end_is_none : is_implied_along (with_derived []) (yes 1 ∷ []) (Assumed 9 ∷ Derived 9 ∷ Assumed 0 ∷ Assumed 1 ∷ []) ≡ true
a_hint_past_the_end_is_none = refl

one_literal_twice_is_forced : clause_state (Unknown ∷ False ∷ []) (yes 0 ∷ yes 1 ∷ yes 0 ∷ []) ≡ Unit (yes 0)
one_literal_twice_is_forced = refl

two_signs_are_open : clause_state (Unknown ∷ False ∷ []) (yes 0 ∷ yes 1 ∷ no 0 ∷ []) ≡ Open
two_signs_are_open = refl

a_variable_without_a_mark_is_open : clause_state (Unknown ∷ False ∷ []) (yes 1 ∷ yes 5 ∷ yes 0 ∷ []) ≡ Open
a_variable_without_a_mark_is_open = refl

each_literal_is_false : clause_state (True ∷ False ∷ []) (no 0 ∷ yes 1 ∷ []) ≡ Conflict
each_literal_is_false = refl

denied_by_signs : denied (Unknown ∷ Unknown ∷ Unknown ∷ []) (yes 0 ∷ no 2 ∷ []) ≡ False ∷ Unknown ∷ True ∷ []
denied_by_signs = refl
