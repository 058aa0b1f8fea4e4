-- Worked places, by hand: of a language with one list, 1 and 2, written for true, what is read, and where other lists stop being it.
use Rattle.std.proofs.Common.{◌≡◌, ℕ, Bool, true, false, List, [], ◌∷◌, Some, Ok, Err, refl}
use Rattle.base_reader.specs.declared.faults.ReadError.TheVariants as errors
use Rattle.base_reader.specs.Exact.{BeginsMember, BeginsDeeper, IsOnly, Exactly, GivesExactly}
use Rattle.base_reader.specs.Languages.{next_of}

abbrev Pair : ℕ → Bool → List ℕ → Type 0
Pair room value tokens = (value ≡ true) × (tokens ≡ 1 ∷ 2 ∷ [])

the_pair : Exactly Pair 0 (1 ∷ 2 ∷ []) (Ok true)
the_pair = record { member = (refl, refl); only = λ other h. h.0 }

no_other_list : IsOnly Pair 0 (1 ∷ 3 ∷ []) true → ⊥
no_other_list h = let e = h.member.1 in cc

-- each list is written for both values
abbrev Any : ℕ → Bool → List ℕ → Type 0
Any room value tokens = tokens ≡ tokens

not_for_one_value : IsOnly Any 0 [] true → ⊥
not_for_one_value h = differ (h.only false refl)
  where
    differ : false ≡ true → ⊥
    differ e = cc

-- behind 1 the token 3 stands in the place of 2
abbrev stops_behind_one : List ℕ → Type 0
stops_behind_one tokens = Exactly Pair 0 tokens (Err (record { deep = false; left = 2 }))

third_for_second : stops_behind_one (1 ∷ 3 ∷ 4 ∷ [])
third_for_second = record {
  front = 1 ∷ [];
  rest = 3 ∷ 4 ∷ [];
  cut = refl;
  place = refl;
  begins = (true, 2 ∷ [], (refl, refl));
  stuck = stuck;
  deep = (λ h. absurd (differ h), λ h. absurd (deeper h));
}
  where
    stuck : (value : Bool) (other : List ℕ) → next_of other ≡ Some 3 → Pair 0 value (1 ∷ other) → ⊥
    stuck value [] next h = cc
    stuck value (t ∷ other) next h = let e = h.1 in cc

    differ : false ≡ true → ⊥
    differ e = cc

    deeper : BeginsDeeper Pair (1 ∷ []) (3 ∷ 4 ∷ []) → ⊥
    deeper h = let e = h.3.1 in cc

what_begins_it : BeginsMember (Pair 0) (1 ∷ []) × BeginsMember (Pair 0) []
what_begins_it = ((true, 2 ∷ [], (refl, refl)), (true, 1 ∷ 2 ∷ [], (refl, refl)))

nothing_is_deeper_at_the_end : BeginsDeeper Pair (1 ∷ []) [] → ⊥
nothing_is_deeper_at_the_end h = h

want_of_memory : GivesExactly (λ b. b) Pair 0 [] (Err errors.NoMemory)
want_of_memory = tt
