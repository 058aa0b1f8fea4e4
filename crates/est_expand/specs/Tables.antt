-- Inner: the table that a scope is kept in.
use Rattle.std.specs.Prelude.{◌≡◌, ℕ, List, [], ◌∷◌, map, reverse, ⊤}
use Rattle.std.specs.HashMap.{get_by}
use Rattle.base_types.specs.Names.{is_same_name}
use Rattle.est_expand.specs.declared.scope.Bound.{Bound}
use Rattle.est_expand.specs.declared.scope.Meaning.{Meaning}
use Rattle.est_expand.specs.declared.scope.Scope.TheInside.{Inside}
use Rattle.est_expand.specs.Scopes.{NameScope, meaning}

abbrev pub bound_name : Bound → List ℕ × Meaning
bound_name bound = (bound.name.now, bound.meaning)

-- the entries have the last binder last
abbrev pub names_of : Inside → NameScope
names_of s = map bound_name (reverse s.bound.items)

-- each entry has what its name means outside of its binder
abbrev pub Hides : List Bound → Type 0
Hides [] = ⊤
Hides (bound ∷ others) = (bound.hidden ≡ meaning (map bound_name others) bound.name.now) × Hides others

-- the map has what each name means
pub record IsKept (s : Inside) : Type 0 where
  pub found : (name : List ℕ) → get_by (λ k. is_same_name name k.now) s.latest ≡ meaning (names_of s) name
  pub hides : Hides (reverse s.bound.items)
