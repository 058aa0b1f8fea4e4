-- Inner: gates under construction, and what their nets say: their values as functions of those of the inputs and the
-- latches.
use Rattle.std.specs.Prelude.{ℕ, ◌≡◌, ◌+◌, ◌<◌, ◌≤◌, Bool, false, ◌&&◌, ◌||◌, List, [], ◌∷◌, ◌++◌, length, map, All}
use Rattle.std.specs.Prelude.{None}
use Rattle.std.specs.Prelude.{Vec, slice_index_or}
use Rattle.std.specs.declared.alloc.Global.{Global}
use Rattle.base_types.specs.declared.indices.NetId.{NetId}
use Rattle.net_ir.specs.declared.netlist.Gate.{Gate}
use Rattle.net_ir.specs.Gates.{ReadsLower, value_in, gate_values}
use Rattle.net_state_enc.specs.declared.codes.Literal.{Literal}
use Rattle.net_state_enc.specs.Codes.{wants}

-- the bits of a code that stand from a net on
abbrev pub bits_at : ℕ → List Bool → ℕ → Bool
bits_at base values i = value_in values (base + i)

-- gates that carry no wire were added, at most so many
pub record Grew (first : ℕ) (old new : List Gate) (most : ℕ) : Type 0 where
  pub more : List Gate
  pub is : new ≡ old ++ more
  pub silent : All (λ g. g.wire ≡ None) more
  pub few : length more ≤ most
  pub reads : ReadsLower first new

-- a net that there is says this
pub record Says (first : ℕ) (gates : List Gate) (n : ℕ) (m : List Bool → Bool) : Type 0 where
  pub below : n < first + length gates
  pub says : (v : List Bool) → length v ≡ first → value_in (gate_values v gates) n ≡ m v

-- each of these nets says this, by its place
abbrev pub EachSays : ℕ → List Gate → List NetId → (ℕ → List Bool → Bool) → Type 0
EachSays first gates nets ms =
    (k : ℕ) (d : NetId) → k < length nets → Says first gates (slice_index_or nets k d).0 (ms k)

-- the literals of leaves
abbrev pub literals_of : List (Vec Literal Global) → List (List Literal)
literals_of codes = map (λ c. c.items) codes

abbrev pub literals_at : List (Vec Literal Global) → ℕ → List Literal
literals_at codes k = slice_index_or (literals_of codes) k []

-- the bit of a code, where so many leaves are selected as these values say
abbrev pub wanted : List (List Literal) → List Bool → ℕ → Bool
wanted [] bits i = false
wanted (c ∷ cs) [] i = false
wanted (c ∷ cs) (b ∷ bits) i = (b && wants i c) || wanted cs bits i

-- the values of nets
abbrev pub values_of : List Gate → List NetId → List Bool → List Bool
values_of gates nets v = map (λ n. value_in (gate_values v gates) n.0) nets
