-- Contract: names of new signals.
use Rattle.std.specs.Prelude.{ℕ, List, ◌++◌, All, IsTrue}
use Rattle.base_types.specs.Distinct.{all_differ}
use Rattle.base_types.specs.Names.{is_name, is_same_name}

-- these names can be written, and none of them is another one or one of the given ones, which all differ
pub record AreNew (given names : List (List ℕ)) : Type 0 where
  pub written : All (λ n. IsTrue (is_name n)) names
  pub differ : IsTrue (all_differ is_same_name (given ++ names))
