-- To believe: in how many bits the state of a selection tree is coded.
--
-- Of the parts of an exclusive node one alone holds a selected leaf, so it is enough to say which one, by a number, and
-- how that part is selected. The parts share the bits for that. The branches of a parallel are selected together, each
-- in bits of its own.
use Rattle.std.specs.Prelude.{ℕ, zero, suc, ◌+◌, ◌^◌, max, Bool, ◌==◌, ◌&&◌, ◌||◌, nat_le, if◌then◌else◌}

-- The widths of a node in the tree, or of none. Its parts are those of its exclusive nodes, one within another; every
-- other node is one part.
pub record Widths : Type 0 where
  pub parts : ℕ
  -- the greatest width of a part that holds a selected leaf
  pub greatest : ℕ
  -- the width where it holds a selected leaf
  pub full : ℕ
  -- the width where it may hold none
  pub loose : ℕ

-- the least width from this one on in which so many numbers differ; the first number is that of tries
abbrev pub width_from : ℕ → ℕ → ℕ → ℕ
width_from zero width count = width
width_from (suc tries) width count =
    if nat_le count (2 ^ width) then width else width_from tries (width + 1) count

-- the least width in which so many numbers differ
abbrev pub number_width : ℕ → ℕ
number_width count = width_from count 0 count

-- no node
abbrev pub no_widths : Widths
no_widths = record { parts = 0; greatest = 0; full = 0; loose = 0 }

-- one part
abbrev pub one_part : ℕ → ℕ → Widths
one_part full loose = record { parts = 1; greatest = full; full = full; loose = loose }

-- a leaf: that it is selected needs no bit, whether it is needs one
abbrev pub leaf_widths : Widths
leaf_widths = one_part 0 1

-- several parts: the number of the one that holds a selected leaf, or one number more, and the bits of that part
abbrev pub several_parts : Widths → Widths → Widths
several_parts a b = record {
  parts = a.parts + b.parts;
  greatest = max a.greatest b.greatest;
  full = number_width (a.parts + b.parts) + max a.greatest b.greatest;
  loose = number_width (a.parts + b.parts + 1) + max a.greatest b.greatest;
}

-- an exclusive node, of which one part may be no node
abbrev pub exclusive_widths : Widths → Widths → Widths
exclusive_widths a b = if a.parts == 0 then b else if b.parts == 0 then a else several_parts a b

-- the bits of a branch of a parallel that holds a selected leaf: a marked branch may hold none
abbrev pub branch_width : Bool → Widths → ℕ
branch_width marked a = if marked then a.loose else a.full

-- whether each branch that is a node is marked
abbrev pub all_marked : Bool → Bool → Widths → Widths → Bool
all_marked x y a b = (a.parts == 0 || x) && (b.parts == 0 || y)

-- A parallel: its branches, each in bits of its own. Where each is marked they say that none is selected; else one bit
-- more says so.
abbrev pub parallel_widths : Bool → Bool → Widths → Widths → Widths
parallel_widths x y a b = one_part (branch_width x a + branch_width y b)
    (if all_marked x y a b then branch_width x a + branch_width y b else branch_width x a + branch_width y b + 1)
