-- Inner: marks on the nets that are needed.
use Rattle.std.specs.Prelude.{◌≡◌, ℕ, ◌+◌, ◌<◌, ◌≤◌, Bool, true, false, ◌||◌, ◌==◌, List, length, slice_index_or}
use Rattle.std.specs.Prelude.{IsTrue, ◌⊎◌, is_some}
use Rattle.net_ir.specs.declared.netlist.Gate.{Gate}
use Rattle.std.specs.List.{list_any}
use Rattle.base_types.specs.declared.indices.NetId.{NetId}
use Rattle.net_ir.specs.Netlists.{Netlist, first_gate}
use Rattle.net_simp.specs.Renaming.{stand_in}
use Rattle.net_simp.specs.SimpleNets.{reads}

abbrev pub marked : List Bool → ℕ → Bool
marked marks n = slice_index_or marks n false

-- a marked gate, from this place on, that reads the net
pub record ReadFrom (first : ℕ) (gates : List Gate) (marks : List Bool) (place n : ℕ) : Type 0 where
  pub at : ℕ
  pub from : place ≤ at
  pub within : at < length gates
  pub kept : IsTrue (marked marks (first + at))
  pub read : (d : Gate) → IsTrue (reads (slice_index_or gates at d).op n)

-- of the gates from this place on, the marked ones read marked nets alone; what is marked was so, or is read by one of
-- these
pub record NeedsMet (first : ℕ) (gates : List Gate) (before marks : List Bool) (place : ℕ) : Type 0 where
  pub count : length marks ≡ length before
  pub stays : (n : ℕ) → IsTrue (marked before n) → IsTrue (marked marks n)
  pub closed : (k : ℕ) (d : Gate) (n : ℕ) → place ≤ k → k < length gates → IsTrue (marked marks (first + k))
      → IsTrue (reads (slice_index_or gates k d).op n) → IsTrue (marked marks n)
  pub needed : (n : ℕ) → IsTrue (marked marks n) → IsTrue (marked before n) ⊎ ReadFrom first gates marks place n

-- the marks that there were, and those of the nets that stand for what outputs, latches and `paused` show
abbrev pub RootMarks : Netlist → List NetId → List Bool → List Bool → Type 0
RootMarks net names begun before = (n : ℕ) → marked before n
    ≡ (((marked begun n || list_any (λ o. stand_in names o.net.0 == n) net.outputs)
    || list_any (λ l. stand_in names l.from.0 == n) net.latches)
    || stand_in names net.paused == n)

-- these, and those of all that marked gates read
pub record Needed (net : Netlist) (names : List NetId) (gates : List Gate) (begun marks : List Bool) : Type 0 where
  pub before : List Bool
  pub count : length before ≡ length begun
  pub roots : RootMarks net names begun before
  pub needs : NeedsMet (first_gate net) gates before marks 0

-- inputs, latches and gates that carry a wire are marked, and marked gates read marked nets alone
pub record Closed (first : ℕ) (gates : List Gate) (marks : List Bool) : Type 0 where
  pub count : length marks ≡ first + length gates
  pub low : (n : ℕ) → n < first → IsTrue (marked marks n)
  pub carriers : (k : ℕ) (d : Gate) → k < length gates → IsTrue (is_some (slice_index_or gates k d).wire)
      → IsTrue (marked marks (first + k))
  pub closed : (k : ℕ) (d : Gate) (n : ℕ) → k < length gates → IsTrue (marked marks (first + k))
      → IsTrue (reads (slice_index_or gates k d).op n) → IsTrue (marked marks n)
