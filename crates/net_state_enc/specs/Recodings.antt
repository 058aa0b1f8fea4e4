-- Inner: a netlist whose latches hold the code of those of another.
use Rattle.std.specs.Prelude.{ℕ, zero, suc, ◌≡◌, ◌+◌, ◌*◌, ◌<◌, ◌≤◌, ◌^◌, Bool, true, false, List, [], ◌∷◌, ◌++◌}
use Rattle.std.specs.Prelude.{length, map, All, None}
use Rattle.std.specs.Prelude.{slice_index_or, replicate}
use Rattle.base_types.specs.Items.{Item, EachEvent}
use Rattle.base_types.specs.declared.indices.NetId.{NetId}
use Rattle.net_ir.specs.declared.netlist.Gate.{Gate}
use Rattle.net_ir.specs.declared.netlist.Latch.{Latch}
use Rattle.net_ir.specs.Gates.{ReadsLower, value_in, gate_values, carried}
use Rattle.net_ir.specs.Netlists.{Netlist, first_gate, net_count, output_names}
use Rattle.net_ir.specs.Runs.{shown, net_values, initial_latches, next_latches}
use Rattle.net_simp.specs.Renaming.{renamed_op, renamed_out, stand_in}
use Rattle.net_simp.specs.SameRuns.{carried_values, RunsAlike}
use Rattle.net_state_enc.specs.declared.codes.Literal.{Literal}
use Rattle.net_state_enc.specs.Codes.{are_met}
use Rattle.net_state_enc.specs.Meeting.{LatchesMeet}
use Rattle.net_state_enc.specs.Drafts.{Grew, Says, EachSays, bits_at, wanted}

-- the values of a function at so many numbers, from this one on
abbrev pub tabulated : (ℕ → Bool) → ℕ → ℕ → List Bool
tabulated f zero k = []
tabulated f (suc n) k = f k ∷ tabulated f n (k + 1)

-- which leaves a code selects, and the code of selected leaves
abbrev pub read_code : List (List Literal) → List Bool → List Bool
read_code codes bits = map (are_met (value_in bits)) codes

abbrev pub write_code : List (List Literal) → ℕ → List Bool → List Bool
write_code codes width leaves = tabulated (wanted codes leaves) width 0

-- the same of latches, of which the first one tells the first instant and is not coded
abbrev pub read_latches : List (List Literal) → List Bool → List Bool
read_latches codes [] = []
read_latches codes (b ∷ bits) = b ∷ read_code codes bits

abbrev pub write_latches : List (List Literal) → ℕ → List Bool → List Bool
write_latches codes width [] = []
write_latches codes width (b ∷ leaves) = b ∷ write_code codes width leaves

-- In an instant with these values of the new latches and the inputs, both show the same, gates that carry a wire have
-- the same values, and the new latches then hold the code of what the old ones do.
pub record Recodes (net new : Netlist) (write read : List Bool → List Bool) (latches inputs : List Bool) : Type 0 where
  pub shows : shown new (net_values new latches inputs) ≡ shown net (net_values net (read latches) inputs)
  pub carries : carried_values (first_gate new) new.gates (net_values new latches inputs)
      ≡ carried_values (first_gate net) net.gates (net_values net (read latches) inputs)
  pub next : next_latches new (net_values new latches inputs)
      ≡ write (next_latches net (net_values net (read latches) inputs))

abbrev pub RecodesInstants : (net new : Netlist) (write read : List Bool → List Bool) → Type 0
RecodesInstants net new write read = (latches inputs : List Bool)
    → length latches ≡ length new.latches → length inputs ≡ length net.inputs
    → Recodes net new write read latches inputs

-- a gate over the nets that stand for those that it reads
abbrev pub copied : (ℕ → ℕ) → Gate → Gate
copied f g = record { op = renamed_op f g.op; wire = g.wire }

-- the number of the first net of the code, and of the first gate after a code of this width
abbrev pub code_base : Netlist → ℕ
code_base net = length net.inputs + 1

abbrev pub first_behind : Netlist → ℕ → ℕ
first_behind net width = code_base net + width

-- Gates that read the code, after those that stood before, and copies of the gates of a netlist over the nets that
-- stand for its nets.
pub record CopiesDrawn (net : Netlist) (width : ℕ) (codes : List (List Literal)) (before : List Gate)
    (names : List NetId) (gates : List Gate) : Type 0 where
  pub decode : List Gate
  pub is : gates ≡ decode ++ map (copied (stand_in names)) net.gates
  pub grew : Grew (first_behind net width) before decode (2 * (length codes * width))
  pub silent : All (λ g. g.wire ≡ None) decode
  pub reads : ReadsLower (first_behind net width) gates
  pub own : (n : ℕ) → n < code_base net → stand_in names n ≡ n
  pub leaves : (k : ℕ) → k < length codes → Says (first_behind net width) decode (stand_in names (code_base net + k))
      (λ v. are_met (bits_at (code_base net) v) (slice_index_or codes k []))
  pub step : (k : ℕ) → k < length net.gates
      → stand_in names (first_gate net + k) ≡ first_behind net width + length decode + k
  pub many : length names ≡ net_count net

-- All that is drawn for a netlist: after these, gates that write the code anew.
pub record Drawn (net : Netlist) (next : List NetId) (width : ℕ) (codes : List (List Literal)) (names : List NetId)
    (gates : List Gate) (bits : List NetId) : Type 0 where
  pub decode : List Gate
  pub more : List Gate
  pub is : gates ≡ (decode ++ map (copied (stand_in names)) net.gates) ++ more
  pub decode_silent : All (λ g. g.wire ≡ None) decode
  pub more_silent : All (λ g. g.wire ≡ None) more
  pub reads : ReadsLower (first_behind net width) gates
  pub fits : first_behind net width + length gates ≤ 2 ^ 32
  pub few : length gates ≤ length net.gates + (2 + 3 * (length codes * width))
  pub own : (n : ℕ) → n < code_base net → stand_in names n ≡ n
  pub leaves : (k : ℕ) → k < length codes → Says (first_behind net width) decode (stand_in names (code_base net + k))
      (λ v. are_met (bits_at (code_base net) v) (slice_index_or codes k []))
  pub step : (k : ℕ) → k < length net.gates
      → stand_in names (first_gate net + k) ≡ first_behind net width + length decode + k
  pub many : length names ≡ net_count net
  pub bits_say : EachSays (first_behind net width) gates bits (λ i v. wanted codes
      (map (λ n. value_in (gate_values v (decode ++ map (copied (stand_in names)) net.gates)) (stand_in names n.0))
      next)
      i)
  pub bit_count : length bits ≡ width

-- the net that stands for the one that a latch reads
abbrev pub latch_net : (ℕ → ℕ) → Latch → NetId
latch_net f l = record { 0 = f l.from.0 }

-- so many nets from a number on
abbrev pub numbers_from : ℕ → ℕ → List NetId
numbers_from n zero = []
numbers_from n (suc count) = record { 0 = n } ∷ numbers_from (n + 1) count

-- the latch of a bit of the code
abbrev pub bit_latch : NetId → Latch
bit_latch n = record { init = false; from = n }

-- the net that the first latch reads
abbrev pub boot_net : List Latch → NetId
boot_net [] = record { 0 = 0 }
boot_net (l ∷ ls) = l.from

-- the netlist with what is drawn for it
abbrev pub coded_net : Netlist → (ℕ → ℕ) → List Gate → List NetId → Netlist
coded_net net f gates bits = record {
  name = net.name;
  inputs = net.inputs;
  outputs = map (renamed_out f) net.outputs;
  paused = f net.paused;
  latches = record { init = true; from = record { 0 = f (boot_net net.latches).0 } } ∷ map bit_latch bits;
  gates = gates;
}

-- What holds of the netlist that stores a code in its latches. It has the same name, interface and carried wires as the
-- given netlist. It has one latch for each bit of the code and one more, and not many more gates. Over items it shows
-- the same, if decoding the code returns the latches in each instant.
pub record IsCodedNet (net new : Netlist) (width : ℕ) (codes : List (List Literal)) : Type 0 where
  pub name : new.name ≡ net.name
  pub inputs : new.inputs ≡ net.inputs
  pub outputs : output_names new ≡ output_names net
  pub latches : initial_latches new ≡ true ∷ replicate width false
  pub wires : carried new.gates ≡ carried net.gates
  pub few : length new.gates ≤ length net.gates + (2 + 3 * (length codes * width))
  pub runs : (items : List Item) → EachEvent (λ event. length event ≡ length net.inputs) items
      → LatchesMeet (λ l. read_latches codes (write_latches codes width l) ≡ l) net (initial_latches net) items
      → RunsAlike net new items
