-- Inner: gates under construction, and what the nets among them say.
use Rattle.std.specs.Prelude.{◌≡◌, ℕ, ◌+◌, ◌<◌, ◌≤◌, ◌^◌, max, Bool, Option, Some, None, List, [], ◌++◌, length, map}
use Rattle.std.specs.Prelude.{IfSome, slice_index_or}
use Rattle.base_types.specs.declared.indices.NetId.{NetId}
use Rattle.net_ir.specs.declared.netlist.Gate.{Gate}
use Rattle.net_ir.specs.Gates.{ReadsLower, carried, gate_values, value_in}
use Rattle.blif_net.specs.Depths.{gate_depths, greatest, or_constant}

-- gates after so many inputs and latches: they read lower nets, and none carries a wire
pub record IsDrawing (first : ℕ) (gates : List Gate) : Type 0 where
  pub few : first + length gates ≤ 2 ^ 32
  pub reads_lower : ReadsLower first gates
  pub silent : carried gates ≡ []

-- a net, if there is one, is one of so many
abbrev pub is_low : ℕ → Option NetId → Type 0
is_low count net = IfSome net (λ n. n.0 < count)

-- the value of a net, if there is one; else this one
abbrev pub said : Bool → Option NetId → List Bool → Bool
said none None values = none
said none (Some net) values = value_in values net.0

-- N parts are joined in one net by the gates between two numbers of gates; or there is none, and no net is needed.
abbrev pub Joins : (before after : ℕ) → Option NetId → (parts : ℕ) → Type 0
Joins before after None parts = (parts ≡ 0) × (after ≡ before)
Joins before after (Some n) parts = (0 < parts) × (after + 1 ≡ before + parts)

-- the values of some nets
abbrev pub read_values : List NetId → List Bool → List Bool
read_values nets values = map (λ n. value_in values n.0) nets

-- More gates, and a net among them, if one is needed, whose value is this function of the values of the nets so far.
pub record Draws (first : ℕ) (old new : List Gate) (net : Option NetId) (none : Bool) (value : List Bool → Bool) :
    Type 0 where
  pub drawing : IsDrawing first new
  pub more : List Gate
  pub added : new ≡ old ++ more
  pub low : is_low (first + length new) net
  pub says : (given : List Bool) → length given ≡ first
      → said none net (gate_values given new) ≡ value (gate_values given old)

-- the depth of a net, if there is one
abbrev pub depth_at : Option NetId → List ℕ → Option ℕ
depth_at None depths = None
depth_at (Some net) depths = Some (slice_index_or depths net.0 0)

-- the depths of some nets
abbrev pub read_depths : List NetId → List ℕ → List ℕ
read_depths nets depths = map (λ n. slice_index_or depths n.0 0) nets

-- More gates, and a net among them, if one is needed, whose depth is this function of the depths so far, and than which
-- no gate more is deeper.
pub record Deepens (first : ℕ) (old new : List Gate) (net : Option NetId) (depth : List ℕ → Option ℕ) : Type 0 where
  pub deep : (given : List ℕ) → length given ≡ first
      → depth_at net (gate_depths given new) ≡ depth (gate_depths given old)
  pub top : (given : List ℕ) → length given ≡ first
      → greatest (gate_depths given new)
      ≡ max (greatest (gate_depths given old)) (or_constant (depth_at net (gate_depths given new)))
