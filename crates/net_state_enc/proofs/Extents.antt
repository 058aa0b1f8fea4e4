-- Trees of few nodes have small widths.
use Rattle.std.proofs.Common.{◌≡◌, ℕ, ◌+◌, ◌-◌, ◌*◌, ◌<◌, ◌≤◌, Bool, true, false, ◌&&◌, ◌==◌, List, length, inl, inr, arith}
use Rattle.std.specs.Prelude.{if◌then◌else◌, max, nat_lt, slice_index_or}
use Rattle.std.proofs.lemmas.Bool.{cases_eq, eq-eqb, ne_eqb}
use Rattle.std.proofs.Math.Nat.{max-le}
use Rattle.grc_graph.specs.declared.trees.SelNode.{SelNode}
use Rattle.grc_graph.specs.SelectionTrees.{Form, Leaf, Exclusive, Parallel, Passing}
use Rattle.grc_graph.specs.TreeForms.{SubtreesNest, end_of}
use Rattle.net_state_enc.specs.TreeWalks.{second_place}
use Rattle.net_state_enc.specs.Extents.{AreNarrow, AreSlight}
use Rattle.net_state_enc.specs.Shapes.{Shape, joined_shape, widths_of}
use Rattle.net_state_enc.specs.Widths.{Widths, all_marked, branch_width, exclusive_widths, no_widths, one_part, parallel_widths, several_parts}
use Rattle.net_state_enc.proofs.NumberCodes.{width-less}

pub narrow-none : (n : ℕ) → AreNarrow no_widths n
narrow-none n = record { parts = omega arith; greatest = omega arith; full = omega arith; loose = omega arith }

pub narrow-more : (w : Widths) (m n : ℕ) → AreNarrow w m → m ≤ n → AreNarrow w n
narrow-more w m n h few = record {
  parts = omega (arith, h.parts);
  greatest = omega (arith, h.greatest);
  full = omega (arith, h.full);
  loose = omega (arith, h.loose);
}

pub narrow-slight : (w : Widths) (n : ℕ) → AreNarrow w n → n ≤ 65536 → AreSlight w
narrow-slight w n h few = record {
  parts = omega (arith, h.parts);
  greatest = omega (arith, h.greatest);
  full = omega (arith, h.full);
  loose = omega (arith, h.loose);
}

-- ---- a node over two parts

several-narrow : (a b : Widths) (m n : ℕ) → AreNarrow a m → AreNarrow b n → 0 < a.parts → 0 < b.parts → AreNarrow (several_parts a b) (m + n + 1)
several-narrow a b m n h k some other =
    let parts = a.parts + b.parts in
    let top : max a.greatest b.greatest ≤ 2 * (m + n) + 1 - parts
    = max-le (omega (arith, h.greatest, h.parts, k.parts)) (omega (arith, k.greatest, h.parts, k.parts)) in
    let few : parts ≤ 2 * (m + n) + 1 = omega (arith, h.parts, k.parts) in
    record {
      parts = omega (arith, h.parts, k.parts);
      greatest = omega (arith, top, few);
      full = omega (arith, top, few, width-less parts (omega arith));
      loose = omega (arith, top, few, width-less (parts + 1) (omega arith));
    }

exclusive-narrow : (a b : Widths) (m n : ℕ) → AreNarrow a m → AreNarrow b n → AreNarrow (exclusive_widths a b) (m + n + 1)
exclusive-narrow a b m n h k = elim (cases_eq a.parts 0) [
  | inl none ↦ rw (eq-eqb a.parts 0 none) (narrow-more b n (m + n + 1) k (omega arith))
  | inr some ↦ elim (cases_eq b.parts 0) [
    | inl none ↦ rw (ne_eqb a.parts 0 some, eq-eqb b.parts 0 none) (narrow-more a m (m + n + 1) h (omega arith))
    | inr other ↦ rw (ne_eqb a.parts 0 some, ne_eqb b.parts 0 other) (several-narrow a b m n h k (omega (arith, some)) (omega (arith, other)))
  ]
]

branch-narrow : (x : Bool) (a : Widths) (n : ℕ) → AreNarrow a n → branch_width x a ≤ 2 * n + 1
branch-narrow true a n h = h.loose
branch-narrow false a n h = omega (arith, h.full)

parallel-narrow : (x y : Bool) (a b : Widths) (m n : ℕ) → AreNarrow a m → AreNarrow b n → AreNarrow (parallel_widths x y a b) (m + n + 1)
parallel-narrow x y a b m n h k = by (all_marked x y a b) (branch-narrow x a m h) (branch-narrow y b n k)
  where
    by : (z : Bool) → branch_width x a ≤ 2 * m + 1 → branch_width y b ≤ 2 * n + 1
        → AreNarrow (one_part (branch_width x a + branch_width y b)
        (if z then branch_width x a + branch_width y b else branch_width x a + branch_width y b + 1)) (m + n + 1)
    by true f g = record { parts = omega arith; greatest = omega (arith, f, g); full = omega (arith, f, g); loose = omega (arith, f, g) }
    by false f g = record { parts = omega arith; greatest = omega (arith, f, g); full = omega (arith, f, g); loose = omega (arith, f, g) }

pub joined-narrow : (f : Form) (p q : Shape) (m n : ℕ) → AreNarrow (widths_of p) m → AreNarrow (widths_of q) n
    → AreNarrow (widths_of (joined_shape f p q)) (m + n + 1)
joined-narrow (Leaf k) p q m n h g = record { parts = omega arith; greatest = omega arith; full = omega arith; loose = omega arith }
joined-narrow Exclusive p q m n h g = exclusive-narrow (widths_of p) (widths_of q) m n h g
joined-narrow (Parallel x y) p q m n h g = parallel-narrow x y (widths_of p) (widths_of q) m n h g
joined-narrow Passing p q m n h g = narrow-more (widths_of p) m (m + n + 1) h (omega arith)

-- ---- where subtrees end

either-place : (t : Bool) (x y place : ℕ) → place ≡ (if t then x else y) → y < place → x ≤ place
either-place true x y place e low = omega (arith, e)
either-place false x y place e low = absurd (omega (arith, e))

-- the subtree of a first part ends in front of the second
pub first-whole : (nodes : List SelNode) (i place : ℕ) (d : SelNode) → place ≡ second_place nodes i d → i + 1 < place → end_of nodes (i + 1) d ≤ place
first-whole nodes i place d e low =
    either-place (nat_lt (i + 1) (end_of nodes i d) && (slice_index_or nodes (i + 1) d).path.0 == (slice_index_or nodes i d).path.0 + 1)
    (end_of nodes (i + 1) d) (i + 1) place e low

-- that of a second part ends with the whole
pub second-whole : (nodes : List SelNode) (i place : ℕ) (d : SelNode) → SubtreesNest nodes → i < length nodes → i < place → place < end_of nodes i d
    → end_of nodes place d ≤ end_of nodes i d
second-whole nodes i place d nest within after low = nest.whole i place d (omega (arith, nest.ended i d within)) after low
