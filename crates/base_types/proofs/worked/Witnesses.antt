-- Written by hand: witnesses of the definitions that no call of this crate computes, relations, names and items, and of the draws.
use Rattle.std.specs.Prelude.{◌≡◌, zero, suc, true, false, [], ◌∷◌}
use Rattle.std.proofs.Common.{refl, arith}
use Rattle.std.proofs.lemmas.Bool.{false≢true}
use Rattle.std.proofs.lemmas.List.Elements.{All-cons, All-nil}
use Rattle.base_types.specs.declared.interface.InputRelation.TheVariants as relations_of_inputs
use Rattle.base_types.specs.Distinct.{all_differ}
use Rattle.base_types.specs.Draws.{first_state, high_bits, state_after}
use Rattle.base_types.specs.Items.{Event, Reset, EachEvent}
use Rattle.base_types.specs.Names.{is_name, is_same_name}
use Rattle.base_types.specs.Relations.{relation_of, Implies, Excludes, Meets, MeetsAll}

implication_by_numbers : relation_of (relations_of_inputs.Implies (record { 0 = 3 }) (record { 0 = 5 })) ≡ Implies 3 5
implication_by_numbers = refl

-- A => B: broken over A, met over B
implication_broken : MeetsAll (Implies 0 1 ∷ []) (true ∷ false ∷ []) → ⊥
implication_broken m = false≢true (m 0 (Implies 0 0) (omega arith) refl)

implication_met : MeetsAll (Implies 0 1 ∷ []) (false ∷ true ∷ [])
implication_met = All-cons (Meets (false ∷ true ∷ [])) (Implies 0 1) [] (λ h. absurd (false≢true h)) (All-nil _)

-- A # B: broken over both, met over one; a signal that stands twice is no other
exclusion_broken : MeetsAll (Implies 0 0 ∷ Excludes (0 ∷ 1 ∷ []) ∷ []) (true ∷ true ∷ []) → ⊥
exclusion_broken m = m 1 (Implies 0 0) (omega arith) 0 1 (0, omega arith, refl) (1, omega arith, refl) (λ e. omega arith) refl refl

exclusion_met : Meets (false ∷ true ∷ []) (Excludes (1 ∷ 0 ∷ 1 ∷ []))
exclusion_met zero b i j n x y = absurd (false≢true x)
exclusion_met (suc zero) zero i j n x y = absurd (false≢true y)
exclusion_met (suc zero) (suc zero) i j n x y = absurd (n refl)
exclusion_met (suc zero) (suc (suc b)) i j n x y = absurd (false≢true y)
exclusion_met (suc (suc a)) b i j n x y = absurd (false≢true x)

-- A9_z is a name; 9A, A-B, _A and no bytes are none
names_told : is_name (65 ∷ 57 ∷ 95 ∷ 122 ∷ []) ∷ is_name (57 ∷ 65 ∷ []) ∷ is_name (65 ∷ 45 ∷ 66 ∷ []) ∷ is_name (95 ∷ 65 ∷ []) ∷ is_name [] ∷ []
    ≡ true ∷ false ∷ false ∷ false ∷ false ∷ []
names_told = refl

-- the first and the last letters and digits, and the bytes beside them
bounds_told : is_name (64 ∷ []) ∷ is_name (65 ∷ []) ∷ is_name (90 ∷ []) ∷ is_name (91 ∷ []) ∷ is_name (96 ∷ []) ∷ is_name (97 ∷ []) ∷ is_name (122 ∷ []) ∷
    is_name (123 ∷ [])
    ∷ is_name (65 ∷ 47 ∷ []) ∷ is_name (65 ∷ 48 ∷ []) ∷ is_name (65 ∷ 57 ∷ []) ∷ is_name (65 ∷ 58 ∷ []) ∷ []
    ≡ false ∷ true ∷ true ∷ false ∷ false ∷ true ∷ true ∷ false ∷ false ∷ true ∷ true ∷ false ∷ []
bounds_told = refl

names_distinct : all_differ is_same_name ((65 ∷ []) ∷ (66 ∷ []) ∷ (65 ∷ 66 ∷ []) ∷ []) ∷ all_differ is_same_name ((65 ∷ []) ∷ (66 ∷ []) ∷ (65 ∷ []) ∷ []) ∷ []
    ≡ true ∷ false ∷ []
names_distinct = refl

each_event_told : EachEvent (λ given. given ≡ true ∷ []) (Reset ∷ Event (true ∷ []) ∷ Reset ∷ [])
each_event_told = (refl, tt)

each_event_broken : EachEvent (λ given. given ≡ true ∷ []) (Event (true ∷ []) ∷ Event [] ∷ []) → ⊥
each_event_broken h = cc

-- the first draws from 0, as an implementation of the same rules in another language gives them
first_draws : high_bits (state_after 1 (first_state 0)) ∷ high_bits (state_after 2 (first_state 0)) ∷ high_bits (state_after 3 (first_state 0)) ∷ [] ≡
    0 ∷ 21468 ∷ 9988 ∷ []
first_draws = refl

the_lowest_31_bits_of_a_start_count : first_state 1099511627781 ≡ 5
the_lowest_31_bits_of_a_start_count = refl
