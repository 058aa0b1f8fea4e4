-- Inner: the emissions on each status wire, as they are gathered.
use Rattle.std.specs.Prelude.{◌≡◌, ℕ, ◌+◌, ◌<◌, List, [], ◌∷◌, ◌++◌, length, map, slice_index_or, slice_set, All, Vec}
use Rattle.std.specs.Prelude.{Contains, ⊤}
use Rattle.std.specs.declared.alloc.Global.{Global}
use Rattle.base_types.specs.declared.indices.WireId.{WireId}
use Rattle.est_kernel.specs.Plain.{outgoing_count}
use Rattle.est_kernel.specs.Terms.{Term, Emit}
use Rattle.grc_graph.specs.declared.wires.Wire as stored
use Rattle.grc_graph.specs.declared.wires.Wire.TheVariants as wires
use Rattle.grc_graph.specs.Equations.{emissions}
use Rattle.grc_graph.specs.Formulas.{Formula, Value}
use Rattle.grc_graph.specs.Instances.{Instance}
use Rattle.grc_graph.specs.Rows.{program_rows, spot_at}
use Rattle.grc_graph.specs.WireTables.{IsNumberOf}
use Rattle.grc_graph.specs.Neighbouring.{instances_in, names_in}
use Rattle.grc_graph.specs.PlainGraphs.{instance_at, wire_at, wire_of}
use Rattle.grc_graph.specs.Spots.{Spot}
use Rattle.grc_graph.specs.Wires.{Wire, Out, Go, StatusOf}
use Rattle.grc_build.specs.declared.emissions.Emitters.{Emitters}
use Rattle.grc_build.specs.declared.tables.Tables.{Tables}
use Rattle.grc_build.specs.Tabled.{program_in}

-- these wires, by name, and that each of them is there
abbrev pub values : List Wire → List WireId → List Formula
values names list = map (λ w. Value (wire_at names w.0)) list

pub record Gathers (names : List Wire) (list : List WireId) (w : Wire) (spots : List Spot) : Type 0 where
  pub fits : All (λ v. v.0 < length names) list
  pub same : values names list ≡ emissions w spots

-- the list with a number, and the status wire of an instance
abbrev pub list_at : List (Vec WireId Global) → ℕ → List WireId
list_at lists j = slice_index_or (map (λ v. v.items) lists) j []

abbrev pub status_at : Tables → ℕ → Wire
status_at t j = StatusOf (instance_at (instances_in t.wires) j).path (instance_at (instances_in t.wires) j).layer

-- a list of each status wire, as far as these instances emit on it
pub record AreEmitters (t : Tables) (m : Emitters) (spots : List Spot) : Type 0 where
  pub each_local : length m.locals.items ≡ length (instances_in t.wires)
  pub each_out : length m.outs.items ≡ outgoing_count (program_in t)
  pub locals : (j : ℕ) → j < length (instances_in t.wires)
      → Gathers (names_in t.wires) (list_at m.locals.items j) (status_at t j) spots
  pub outs : (k : ℕ) → k < outgoing_count (program_in t)
      → Gathers (names_in t.wires) (list_at m.outs.items k) (Out ((program_in t).inputs + k)) spots

-- the tables have this wire, and its instance
abbrev pub IsOfTables : Tables → stored.Wire → Type 0
IsOfTables t (wires.Out s) = ⊤
IsOfTables t (wires.Go i) = i.0 < length (instances_in t.wires)
IsOfTables t (wires.Local i) = i.0 < length (instances_in t.wires)
IsOfTables t (wires.End i k) = i.0 < length (instances_in t.wires)

pub record IsWireIn (t : Tables) (w : stored.Wire) : Type 0 where
  pub there : Contains (names_in t.wires) (wire_of (instances_in t.wires) w)
  pub within : IsOfTables t w

-- the instance with a number, with what its statement's row says
abbrev pub spot_in : Tables → ℕ → Spot
spot_in t i = spot_at (program_rows (program_in t)) (instance_at (instances_in t.wires) i)

-- the `go` of instance i is appended to the list at a place, and nothing else changes
pub record PutsGo (t : Tables) (i place : ℕ) (old new : List (Vec WireId Global)) : Type 0 where
  pub wire : WireId
  pub go : IsNumberOf (names_in t.wires) wire.0 (Go (instance_at (instances_in t.wires) i).path
      (instance_at (instances_in t.wires) i).layer)
  pub lists : map (λ v. v.items) new ≡ slice_set (map (λ v. v.items) old) place (list_at old place ++ wire ∷ [])

-- the same at the place that is the number of an instance
pub record PutsLocal (t : Tables) (i : ℕ) (x : Instance) (old new : List (Vec WireId Global)) : Type 0 where
  pub place : ℕ
  pub number : IsNumberOf (instances_in t.wires) place x
  pub puts : PutsGo t i place old new

-- some emissions are gathered
abbrev pub AreSomeEmitters : Tables → Emitters → Type 0
AreSomeEmitters t m = (xs : List Spot) × AreEmitters t m xs

abbrev pub NoEmit : Term → Type 0
NoEmit t = (s : ℕ) → t ≡ Emit s → ⊥
