-- Contract: whether two relations are the same.
use Rattle.std.specs.Prelude.{◌==◌, ◌&&◌, Bool, false, nat_eq}
use Rattle.std.specs.Cmp.Lexicographic.{pointwise}
use Rattle.base_types.specs.Relations.{Relation, Implies, Excludes}

abbrev pub is_same_relation : Relation → Relation → Bool
is_same_relation (Implies a b) (Implies c d) = a == c && b == d
is_same_relation (Excludes s) (Excludes t) = pointwise nat_eq s t
is_same_relation (Implies a b) (Excludes t) = false
is_same_relation (Excludes s) (Implies c d) = false
