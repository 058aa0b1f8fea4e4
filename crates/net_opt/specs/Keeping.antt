-- Inner: netlists without the nets that are not marked.
use Rattle.std.specs.Prelude.{◌≡◌, ℕ, ◌+◌, ◌<◌, None, Bool, List, [], ◌∷◌, length, map, if◌then◌else◌, IsTrue}
use Rattle.base_types.specs.declared.indices.NetId.{NetId}
use Rattle.net_ir.specs.declared.netlist.Gate.{Gate}
use Rattle.net_ir.specs.declared.netlist.NetOut.{NetOut}
use Rattle.net_ir.specs.Netlists.{Netlist, first_gate, net_count}
use Rattle.net_simp.specs.Renaming.{stand_in, renamed_op, renamed_latch}
use Rattle.net_simp.specs.Packing.{rank}
use Rattle.net_opt.specs.declared.assembling.Parts.{Parts}
use Rattle.net_opt.specs.Shown.{IsClosed}
use Rattle.net_opt.specs.Showing.{marked}

-- of a list that begins with this number, what is marked
abbrev pub kept : {X : Type 0} → List Bool → ℕ → List X → List X
kept marks n [] = []
kept marks n (x ∷ xs) = if marked marks n then x ∷ kept marks (n + 1) xs else kept marks (n + 1) xs

abbrev pub kept_gate : (ℕ → ℕ) → Gate → Gate
kept_gate f g = record { op = renamed_op f g.op; wire = None }

abbrev pub kept_output : (ℕ → ℕ) → NetOut → NetId
kept_output f o = record { 0 = f o.net.0 }

-- inputs are marked, and what is shown and what that reads
pub record IsKept (net : Netlist) (marks : List Bool) : Type 0 where
  pub count : length marks ≡ net_count net
  pub inputs : (n : ℕ) → n < length net.inputs → IsTrue (marked marks n)
  pub closed : IsClosed net (marked marks)

-- each net's name is how many are marked before it
pub record AreRanked (marks : List Bool) (names : List NetId) : Type 0 where
  pub count : length names ≡ length marks
  pub ranked : (n : ℕ) → n < length names → stand_in names n ≡ rank marks n

-- the parts of a netlist that are marked, over other numbers
pub record HasKept (net : Netlist) (marks : List Bool) (f : ℕ → ℕ) (parts : Parts) : Type 0 where
  pub ranked : (n : ℕ) → n < net_count net → f n ≡ rank marks n
  pub gates : parts.gates.items ≡ map (kept_gate f) (kept marks (first_gate net) net.gates)
  pub latches : parts.latches.items ≡ map (renamed_latch f) (kept marks (length net.inputs) net.latches)
  pub outputs : parts.outputs.items ≡ map (kept_output f) net.outputs
  pub paused : parts.paused.0 ≡ f net.paused
