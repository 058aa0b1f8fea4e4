-- Inner: what a covered program has, except for its body.
use Rattle.std.specs.Prelude.{◌≡◌, ℕ, List, map}
use Rattle.base_types.specs.Relations.{relation_of}
use Rattle.est_ast.specs.FlatTrees.{Flat}
use Rattle.est_cover.specs.declared.heads.Head.{Head}
use Rattle.est_cover.specs.Covered.{covered}

pub record IsHeadOf (flat : Flat) (names : List (List ℕ)) (head : Head) : Type 0 where
  pub name : head.name ≡ flat.name
  pub signals : map (λ s. s.name) head.signals.items ≡ (covered flat 0 names).signals
  pub inputs : head.inputs ≡ flat.inputs
  pub both : head.both ≡ flat.both
  pub outputs : head.outputs ≡ (covered flat 0 names).outputs
  pub relations : map relation_of head.relations.items ≡ flat.relations
