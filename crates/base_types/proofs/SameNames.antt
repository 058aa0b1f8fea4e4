-- The test of names says equality.
use Rattle.std.proofs.Common.{List, refl, true, ℕ, ◌≡◌}
use Rattle.std.proofs.lemmas.Slice.Eq.{bytes_eq-Decides}
use Rattle.std.specs.Cmp.Lexicographic.{nat_list_eq_equiv}
use Rattle.base_types.specs.Names.{is_same_name}

pub same_name-self : (name : List ℕ) → is_same_name name name ≡ true
same_name-self name = nat_list_eq_equiv.refl name

pub same_name-is : (a b : List ℕ) → is_same_name a b ≡ true → a ≡ b
same_name-is a b is = (bytes_eq-Decides a b).0 is
