-- Worked runs, by hand: a machine that tells in each instant whether there was an odd number of events before, and what the event gives.
use Rattle.std.proofs.Common.{◌≡◌, Bool, true, false, not, List, [], ◌∷◌, map, refl}
use Rattle.base_types.specs.Items.{Item, Event, Reset}
use Rattle.base_machines.specs.Machines.{Machine, IsRun, IsRunFrom, computed, run_from, within, Shows}

abbrev told : Bool → List Bool → List Bool
told odd inputs = odd ∷ inputs

abbrev turned : Bool → List Bool → List Bool → Bool
turned odd inputs seen = not odd

abbrev odd_events : Machine (List Bool)
odd_events = computed false told turned

abbrev items : List Item
items = Event (true ∷ []) ∷ Event [] ∷ Reset ∷ Event [] ∷ Reset ∷ []

in_each_instant : run_from false told turned false items ≡ (false ∷ true ∷ []) ∷ (true ∷ []) ∷ (false ∷ []) ∷ []
in_each_instant = refl

from_the_other_state : run_from false told turned true items ≡ (true ∷ true ∷ []) ∷ (false ∷ []) ∷ (false ∷ []) ∷ []
from_the_other_state = refl

a_run : IsRun odd_events items ((false ∷ true ∷ []) ∷ (true ∷ []) ∷ (false ∷ []) ∷ [])
a_run = (refl, (refl, (refl, tt)))

a_reset_begins_anew : IsRunFrom odd_events true (Reset ∷ Event [] ∷ []) ((false ∷ []) ∷ [])
a_reset_begins_anew = (refl, tt)

no_run_that_goes_on : IsRun odd_events (Event [] ∷ []) ((false ∷ []) ∷ (true ∷ []) ∷ []) → ⊥
no_run_that_goes_on h = h.1

no_run_that_ends : IsRun odd_events (Event [] ∷ Event [] ∷ []) ((false ∷ []) ∷ []) → ⊥
no_run_that_ends h = h.1

no_instant_of_a_reset : IsRun odd_events (Reset ∷ []) ((false ∷ []) ∷ []) → ⊥
no_instant_of_a_reset h = h

shows_its_first_bits : Shows odd_events (λ seen. seen) false [] []
shows_its_first_bits = record { some_run = ([], tt); each_run = none }
  where
    none : (xs : List (List Bool)) → IsRun odd_events [] xs → [] ≡ map (λ seen. seen) xs
    none [] h = refl
    none (x ∷ xs) h = absurd h

no_instant_without : IsRun (within odd_events (λ s seen. ⊥)) (Event [] ∷ []) ((false ∷ []) ∷ []) → ⊥
no_instant_without h = h.0.1
