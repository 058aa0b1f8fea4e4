-- Inner: the plain form of a tree with its widths, and what it keeps.
use Rattle.std.specs.Prelude.{◌≡◌, ◌+◌, ◌<◌, ◌^◌, ⊤}
use Rattle.net_state_enc.specs.declared.trees.Sizes.{Sizes}
use Rattle.net_state_enc.specs.declared.trees.CodeTree.{CodeTree}
use Rattle.net_state_enc.specs.declared.trees.CodeTree.TheVariants as trees
use Rattle.net_state_enc.specs.Shapes.{Shape, NoLeaf, OneLeaf, OneOf, AllOf, widths_of}
use Rattle.net_state_enc.specs.Widths.{Widths}

abbrev pub widths_in : Sizes → Widths
widths_in s = record { parts = s.parts; greatest = s.greatest; full = s.full; loose = s.loose }

abbrev pub shape_in : CodeTree → Shape
shape_in trees.NoLeaf = NoLeaf
shape_in (trees.OneLeaf k) = OneLeaf k
shape_in (trees.OneOf' sizes _ a _ b) = OneOf (shape_in a) (shape_in b)
shape_in (trees.AllOf' sizes x y _ a _ b) = AllOf x y (shape_in a) (shape_in b)

-- each node has its widths, and not too many parts
abbrev pub IsSized : CodeTree → Type 0
IsSized trees.NoLeaf = ⊤
IsSized (trees.OneLeaf k) = ⊤
IsSized (trees.OneOf' sizes _ a _ b) =
    (widths_in sizes ≡ widths_of (OneOf (shape_in a) (shape_in b))) × (sizes.parts + 1 < 2 ^ 32)
    × IsSized a × IsSized b
IsSized (trees.AllOf' sizes x y _ a _ b) =
    (widths_in sizes ≡ widths_of (AllOf x y (shape_in a) (shape_in b))) × (sizes.parts + 1 < 2 ^ 32)
    × IsSized a × IsSized b
