-- Inner: marks on the nets that something shows.
use Rattle.std.specs.Prelude.{◌≡◌, ℕ, ◌+◌, ◌<◌, ◌≤◌, false, Bool, List, length, slice_index_or, IsTrue, All, ◌⊎◌}
use Rattle.base_types.specs.declared.indices.NetId.{NetId}
use Rattle.net_ir.specs.declared.netlist.Gate.{Gate}
use Rattle.net_ir.specs.declared.netlist.Latch.{Latch}
use Rattle.net_ir.specs.Netlists.{Netlist, first_gate, net_count}
use Rattle.net_opt.specs.Optimized.{Optimizes}
use Rattle.net_opt.specs.Shown.{IsRead}

abbrev pub marked : List Bool → ℕ → Bool
marked marks n = slice_index_or marks n false

-- of these nets and of those that are marked each is in the set
pub record AllAre (P : ℕ → Bool) (marks : List Bool) (found : List NetId) : Type 0 where
  pub each_mark : (n : ℕ) → IsTrue (marked marks n) → IsTrue (P n)
  pub each_found : All (λ n. IsTrue (P n.0)) found

-- what the net of this number reads is marked
pub record ReadsMarked (net : Netlist) (marks : List Bool) (n : ℕ) : Type 0 where
  pub latch : (k : ℕ) (d : Latch) → k < length net.latches → n ≡ length net.inputs + k
      → IsTrue (marked marks (slice_index_or net.latches k d).from.0)
  pub gate : (k : ℕ) (d : Gate) → k < length net.gates → n ≡ first_gate net + k
      → IsRead (marked marks) (slice_index_or net.gates k d).op

-- the net of this number is in the list, at this place or after it
pub record StandsFrom (found : List NetId) (place n : ℕ) : Type 0 where
  pub at : ℕ
  pub from : place ≤ at
  pub within : at < length found
  pub is : (d : NetId) → (slice_index_or found at d).0 ≡ n

-- more nets are marked, and the list has these after those that were found before
pub record Grows (marks : List Bool) (found : List NetId) (more : List Bool) (longer : List NetId) : Type 0 where
  pub count : length more ≡ length marks
  pub stays : (n : ℕ) → IsTrue (marked marks n) → IsTrue (marked more n)
  pub listed : (n : ℕ) → IsTrue (marked more n) → IsTrue (marked marks n) ⊎ StandsFrom longer (length found) n
  pub found_more : length found ≤ length longer
  pub found_stay : (k : ℕ) (d : NetId) → k < length found → slice_index_or longer k d ≡ slice_index_or found k d

-- each marked net is in the list, and what the nets before this place read is marked
pub record Follow (net : Netlist) (marks : List Bool) (found : List NetId) (place : ℕ) : Type 0 where
  pub listed : (n : ℕ) → IsTrue (marked marks n) → StandsFrom found 0 n
  pub read : (k : ℕ) (d : NetId) → k < place → k < length found → ReadsMarked net marks (slice_index_or found k d).0

-- the new netlist does what the given one does, with fewer nets
pub record IsPart (old new : Netlist) : Type 0 where
  pub optimizes : Optimizes old new
  pub smaller : net_count new < net_count old
