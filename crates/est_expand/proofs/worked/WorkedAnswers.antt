-- Worked answers, by hand: which defined fault each fault of a call is, and that want of memory is none.
use Rattle.std.proofs.Common.{◌≡◌, ℕ, ◌+◌, List, [], ◌∷◌, None, Some, Ok, Err, Result, codes, map, refl, ap, Vec, Global}
use Rattle.base_types.specs.declared.place.Span.{Span}
use Rattle.est_expand.specs.Answers.{scope_fault, fault_of, AnswersAsDefined}
use Rattle.est_expand.specs.Faults.{FlattenFault, UnknownModule, Recursive, BadRename, UnknownSignal, Unbound, UnknownTrap, EmitInput}
use Rattle.est_expand.specs.Faults.{TooManyStatements, TooDeep, TooManySignals}
use Rattle.est_expand.specs.declared.refusal.ExpandFault.TheVariants as code
use Rattle.est_expand.specs.declared.refusal.ScopeFault.TheVariants as scope

abbrev at : Span
at = record { start = 3; end = 4 }

of_names : map scope_fault (scope.UnknownModule at ∷ scope.BadRename at ∷ scope.UnknownSignal at ∷ scope.Unbound at (codes "S") ∷ scope.UnknownTrap at
    ∷ scope.EmitInput at ∷ [])
    ≡ UnknownModule at ∷ BadRename at ∷ UnknownSignal at ∷ Unbound at (codes "S") ∷ UnknownTrap at ∷ EmitInput at ∷ []
of_names = refl

of_runs : (names : Vec (List ℕ) Global) → names.items ≡ codes "M" ∷ codes "N" ∷ []
    → scope_fault (scope.Recursive at names) ≡ Recursive at (codes "M" ∷ codes "N" ∷ [])
of_runs names is = ap (Recursive at) is

of_calls : map fault_of (code.Scope (scope.EmitInput at) ∷ code.TooManyStatements ∷ code.TooDeep ∷ code.TooManySignals ∷ code.NoMemory ∷ [])
    ≡ Some (EmitInput at) ∷ Some TooManyStatements ∷ Some TooDeep ∷ Some TooManySignals ∷ None ∷ []
of_calls = refl

-- ---- answers of a call that is defined to give 4

abbrev defined : ℕ → Result ℕ FlattenFault
defined n = Ok n

value_answered : AnswersAsDefined (λ n. n + 1) (Ok 3) (defined 4)
value_answered = refl

other_value : AnswersAsDefined (λ n. n + 1) (Ok 4) (defined 4) → ⊥
other_value h = differ h
  where
    differ : defined 4 ≡ defined 5 → ⊥
    differ e = cc

no_fault_answered : AnswersAsDefined (λ n. n + 1) (Err code.TooDeep) (defined 4) → ⊥
no_fault_answered h = differ (h TooDeep refl)
  where
    differ : defined 4 ≡ Err TooDeep → ⊥
    differ e = cc

want_of_memory : AnswersAsDefined (λ n. n + 1) (Err code.NoMemory) (defined 4)
want_of_memory fault none = absurd (differ fault none)
  where
    differ : (fault : FlattenFault) → None ≡ Some fault → ⊥
    differ fault e = cc
