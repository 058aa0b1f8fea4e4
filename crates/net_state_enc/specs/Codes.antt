-- Inner: the code of a selection. Each leaf has literals, bits with values: those of its code. The code of a selection
-- has a bit wherever a selected leaf wants it true, and a leaf is read as selected where its literals are met. This is
-- right of well-formed selections, since no two leaves of one want a bit different.
use Rattle.std.specs.Prelude.{ℕ, zero, suc, ◌+◌, ◌-◌, ◌^◌, Bool, true, false, not, ◌==◌, ◌&&◌, ◌||◌, nat_le}
use Rattle.std.specs.Prelude.{if◌then◌else◌}
use Rattle.std.specs.Prelude.{List, [], ◌∷◌, ◌++◌, map}
use Rattle.net_state_enc.specs.declared.codes.Literal.{Literal}
use Rattle.net_state_enc.specs.declared.codes.Way.{Way}
use Rattle.net_state_enc.specs.declared.codes.Way.TheVariants.{Full, Loose, Part}
use Rattle.net_state_enc.specs.Widths.{Widths, number_width, branch_width, all_marked}
use Rattle.net_state_enc.specs.Shapes.{Shape, NoLeaf, OneLeaf, OneOf, AllOf, widths_of}

-- a leaf by its number, and the literals that it wants
pub record LeafCode : Type 0 where
  pub leaf : ℕ
  pub needs : List Literal

-- a number in so many bits, the highest first, from a bit on
abbrev pub number_code : ℕ → ℕ → ℕ → List Literal
number_code zero number bit = []
number_code (suc width) number bit =
    record { bit = bit; value = nat_le (2 ^ width) number }
    ∷ number_code width (if nat_le (2 ^ width) number then number - 2 ^ width else number) (bit + 1)

-- what is said of a part, from a bit on, before its branches: its number, or that it holds a selected leaf, where its
-- branches do not say so
abbrev pub front_code : Way → Bool → ℕ → List Literal
front_code Full said bit = []
front_code Loose said bit = if said then [] else record { bit = bit; value = true } ∷ []
front_code (Part width number) said bit = number_code width number bit

abbrev pub front_width : Way → Bool → ℕ
front_width Full said = 0
front_width Loose said = if said then 0 else 1
front_width (Part width number) said = width

abbrev pub width_by : Way → Widths → ℕ
width_by Full a = a.full
width_by Loose a = a.loose
width_by (Part width number) a = width + a.greatest

-- how several parts are coded, where there are so many, from the one with this place on
abbrev pub part_way : Way → ℕ → ℕ → Way
part_way Full parts place = Part (number_width parts) place
part_way Loose parts place = Part (number_width (parts + 1)) (1 + place)
part_way (Part width number) parts place = Part width (number + place)

abbrev pub branch_way : Bool → Way
branch_way marked = if marked then Loose else Full

abbrev pub with_front : List Literal → LeafCode → LeafCode
with_front front e = record { leaf = e.leaf; needs = front ++ e.needs }

-- Of several parts, and of the branches of a parallel.
abbrev pub both_coded : (Way → ℕ → List LeafCode) → (Way → ℕ → List LeafCode) → Widths → Widths → Way → ℕ
    → List LeafCode
both_coded f g a b way bit =
    if a.parts == 0 then g way bit
    else if b.parts == 0 then f way bit
    else f (part_way way (a.parts + b.parts) 0) bit ++ g (part_way way (a.parts + b.parts) a.parts) bit

abbrev pub branches_coded : (Way → ℕ → List LeafCode) → (Way → ℕ → List LeafCode) → Bool → Bool → Widths → Widths → Way
    → ℕ → List LeafCode
branches_coded f g x y a b way bit =
    map (with_front (front_code way (all_marked x y a b) bit))
    (f (branch_way x) (bit + front_width way (all_marked x y a b))
    ++ g (branch_way y) (bit + front_width way (all_marked x y a b) + branch_width x a))

-- the literals of the leaves of a tree that is coded this way from a bit on, in the order of the leaves
abbrev pub leaf_codes : Shape → Way → ℕ → List LeafCode
leaf_codes NoLeaf way bit = []
leaf_codes (OneLeaf k) way bit = record { leaf = k; needs = front_code way false bit } ∷ []
leaf_codes (OneOf a b) way bit =
    both_coded (leaf_codes a) (leaf_codes b) (widths_of a) (widths_of b) way bit
leaf_codes (AllOf x y a b) way bit =
    branches_coded (leaf_codes a) (leaf_codes b) x y (widths_of a) (widths_of b) way bit

-- whether a literal, and whether each of these, is met where the bits have these values
abbrev pub is_met : (ℕ → Bool) → Literal → Bool
is_met bits l = if l.value then bits l.bit else not (bits l.bit)

abbrev pub are_met : (ℕ → Bool) → List Literal → Bool
are_met bits [] = true
are_met bits (l ∷ ls) = is_met bits l && are_met bits ls

-- whether one of these literals wants a bit true
abbrev pub wants : ℕ → List Literal → Bool
wants bit [] = false
wants bit (l ∷ ls) = (l.value && l.bit == bit) || wants bit ls

-- whether one of these leaves is selected, and whether one is that wants a bit true
abbrev pub some_selected : (ℕ → Bool) → List LeafCode → Bool
some_selected S [] = false
some_selected S (e ∷ es) = S e.leaf || some_selected S es

abbrev pub bit_of : (ℕ → Bool) → List LeafCode → ℕ → Bool
bit_of S [] bit = false
bit_of S (e ∷ es) bit = (S e.leaf && wants bit e.needs) || bit_of S es bit
