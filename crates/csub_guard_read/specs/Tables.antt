-- Inner: where names were assigned so far, as a table has it, and the rules of places and of reads by it.
use Rattle.std.specs.Prelude.{ℕ, ◌==◌, Bool, true, false, not, ◌&&◌, if◌then◌else◌, List, Option, Some, None}
use Rattle.std.specs.List.{list_any}
use Rattle.csub_guard.specs.Names.{Place, Outside, Half, Use, Put, Taken, Tested, used_name, is_outside}
use Rattle.csub_guard.specs.Names.{is_put_elsewhere, is_set, is_put_where}
use Rattle.base_types.specs.Names.{is_same_name}
use Rattle.csub_guard_read.specs.declared.table.Puts.{Puts as CodePuts}
use Rattle.csub_guard_read.specs.declared.table.Puts.TheVariants as codes

-- where a name was assigned
pub data Puts : Type 0 where
  PutOutside : Puts
  PutFirst : (block : ℕ) (test : List ℕ) → Puts
  PutSecond : (test : List ℕ) → Puts
  PutBoth : Puts

abbrev pub put_of : CodePuts → Puts
put_of codes.Outside = PutOutside
put_of (codes.First block test) = PutFirst block test.now
put_of (codes.Second test) = PutSecond test.now
put_of codes.Both = PutBoth

abbrev pub puts_told : Option CodePuts → Option Puts
puts_told None = None
puts_told (Some puts) = Some (put_of puts)

-- the same, and one place more
abbrev pub joined : Option Puts → Place → Puts
joined before Outside = PutOutside
joined None (Half block test true) = PutFirst block test
joined (Some PutOutside) (Half block test true) = PutOutside
joined (Some others) (Half block test true) = PutFirst block test
joined None (Half block test false) = PutSecond test
joined (Some PutOutside) (Half block test false) = PutOutside
joined (Some (PutFirst other own)) (Half block test false) = PutBoth
joined (Some others) (Half block test false) = PutSecond test

-- whether there is a place that is not the first half of the same block
abbrev pub clashes : Option Puts → Place → Bool
clashes None place = false
clashes (Some (PutFirst block test)) (Half own other false) = not (block == own)
clashes (Some others) place = true

-- whether a name that is assigned there may be read at a place
abbrev pub is_set_by : Option Puts → Place → Bool
is_set_by None place = false
is_set_by (Some PutOutside) place = true
is_set_by (Some PutBoth) place = true
is_set_by (Some (PutFirst block test)) (Half other own true) = is_same_name test own
is_set_by (Some (PutSecond test)) (Half other own false) = is_same_name test own
is_set_by (Some others) place = false

abbrev pub is_outside_by : Option Puts → Bool
is_outside_by (Some PutOutside) = true
is_outside_by others = false

-- ---- the rules by a table

abbrev pub again_in : (List ℕ → Bool) → (List ℕ → Option Puts) → Use → Bool
again_in local puts (Put name place) = local name && clashes (puts name) place
again_in local puts others = false

abbrev pub unset_in : (List ℕ → Bool) → (List ℕ → Option Puts) → Use → Bool
unset_in local puts (Put name place) = false
unset_in local puts (Taken name place) = local name && not (is_set_by (puts name) place)
unset_in local puts (Tested name) = not (is_outside_by (puts name))

-- the table after a use
abbrev pub noted : (List ℕ → Option Puts) → Use → List ℕ → Option Puts
noted puts (Put name place) n = if is_same_name name n then Some (joined (puts name) place) else puts n
noted puts others n = puts n

-- the name that was found, or else that of this use if it is one
abbrev pub first_of : Option (List ℕ) → Bool → Use → Option (List ℕ)
first_of (Some name) is u = Some name
first_of None is u = if is then Some (used_name u) else None

-- ---- the rules by the uses before

abbrev pub again_by : (List ℕ → Bool) → List Use → Use → Bool
again_by local before (Put name place) = local name && list_any (is_put_elsewhere name place) before
again_by local before others = false

abbrev pub unset_by : (List ℕ → Bool) → List Use → Use → Bool
unset_by local before (Put name place) = false
unset_by local before (Taken name place) = local name && not (is_set name place before)
unset_by local before (Tested name) = not (list_any (is_put_where name is_outside) before)
