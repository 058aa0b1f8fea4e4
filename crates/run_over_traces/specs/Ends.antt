-- Inner: to no items a machine shows nothing.
use Rattle.std.specs.Prelude.{◌≡◌, List, [], ◌∷◌, map, refl}
use Rattle.base_machines.specs.Machines.{Machine, IsRunFrom, Shows}

none_shown : {X V : Type 0} → (M : Machine X) (see : X → V) (s : M.State) (xs : List X)
    → IsRunFrom M s [] xs → [] ≡ map see xs
none_shown M see s [] run = refl
none_shown M see s (x ∷ xs) run = absurd run

pub nothing_shown : {X V : Type 0} → (M : Machine X) (see : X → V) (s : M.State) → Shows M see s [] []
nothing_shown M see s = record { some_run = ([], tt); each_run = none_shown M see s }
