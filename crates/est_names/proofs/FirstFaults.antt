-- The first of several lists of faults.
use Rattle.std.proofs.Common.{◌≡◌, List, [], ◌∷◌, ◌++◌, sym, subst}
use Rattle.base_types.specs.declared.stop.Stop.{Stop}
use Rattle.base_types.specs.declared.stop.Stop.TheVariants.{Fault, NoMemory}
use Rattle.base_types.specs.Stops.{FaultIs}
use Rattle.est_names.specs.declared.refusal.NameFault.{NameFault}
use Rattle.est_names.specs.NameFaults.{first, IsFirst}
use Rattle.std.specs.Prelude.{Some}

first-append : (fault : NameFault) (xs ys : List NameFault) → first xs ≡ Some fault → first (xs ++ ys) ≡ Some fault
first-append fault [] ys is = cc
first-append fault (x ∷ xs) ys is = is

-- that of the first list
pub IsFirst-append : (stop : Stop NameFault) (xs ys : List NameFault) → FaultIs (IsFirst xs) stop → FaultIs (IsFirst (xs ++ ys)) stop
IsFirst-append (Fault fault) xs ys is = first-append fault xs ys is
IsFirst-append NoMemory xs ys is = is

-- that of the second list, where the first has none
pub IsFirst-behind : (stop : Stop NameFault) (xs ys : List NameFault) → xs ≡ [] → FaultIs (IsFirst ys) stop → FaultIs (IsFirst (xs ++ ys)) stop
IsFirst-behind stop xs ys none is = subst (λ l. FaultIs (IsFirst (l ++ ys)) stop) (sym none) is

pub ruleset firsts = (IsFirst-append, IsFirst-behind)
