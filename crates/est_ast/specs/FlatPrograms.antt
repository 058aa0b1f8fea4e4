-- Contract: what a flat program keeps.
use Rattle.std.specs.Prelude.{ℕ, ◌+◌, ◌<◌, ◌≤◌, nat_lt, All, IsTrue, length, take}
use Rattle.base_types.specs.declared.bounds.TheConstants.Limits.{SIGNALS}
use Rattle.base_types.specs.Distinct.{all_differ}
use Rattle.base_types.specs.Names.{is_name, is_same_name}
use Rattle.base_types.specs.Relations.{Relation, Implies, Excludes}
use Rattle.est_ast.specs.FlatTrees.{Flat}
use Rattle.est_ast.specs.FlatFits.{Scope, Fits}
use Rattle.est_ast.specs.NewSignals.{new_in}

-- how many signals the environment sees
abbrev pub seen_count : Flat → ℕ
seen_count flat = flat.inputs + (flat.both + flat.outputs)

-- the whole body's scope: the signals that the environment sees, and no trap
abbrev pub whole_scope : Flat → Scope
whole_scope flat = record { visible = λ s. nat_lt s (seen_count flat); traps = 0 }

-- the signals of a relation are given ones
abbrev pub RelatesGiven : ℕ → Relation → Type 0
RelatesGiven given (Implies a b) = (a < given) × (b < given)
RelatesGiven given (Excludes list) = All (λ s. s < given) list

-- The body's exits and signals are in their places, and its relations speak of given signals. With the new signals of
-- its expansion it has no more signals than a program may have. No two signals of the interface have one name.
pub record IsFlat (flat : Flat) : Type 0 where
  pub interface : seen_count flat ≤ length flat.signals
  pub room : length flat.signals + new_in flat.body ≤ SIGNALS
  pub body : Fits flat.inputs (seen_count flat) (length flat.signals) (whole_scope flat) flat.body
  pub relations : All (RelatesGiven (flat.inputs + flat.both)) flat.relations
  pub differ : IsTrue (all_differ is_same_name (take (seen_count flat) flat.signals))

-- the names of the program and of its interface can be written
pub record IsNamed (flat : Flat) : Type 0 where
  pub name : IsTrue (is_name flat.name)
  pub names : All (λ n. IsTrue (is_name n)) (take (seen_count flat) flat.signals)
