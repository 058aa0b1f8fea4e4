-- To believe: the regions of a graph's wires, by number.
use Rattle.std.specs.Prelude.{◌≡◌, ℕ, ◌<◌, List, length, slice_index_or, Option, Some, None}
use Rattle.base_types.specs.declared.indices.WireId.{WireId}
use Rattle.est_kernel.specs.Plain.{program_of}
use Rattle.grc_graph.specs.declared.graph.Graph.{Graph}
use Rattle.grc_graph.specs.PlainGraphs.{names_of, wire_at}
use Rattle.grc_graph.specs.Wires.{Wire}
use Rattle.grc_solutions_laws.specs.Heads.{region_of}

-- what stands for a region among wires by number: nothing for none, else the wire that says whether the head runs
abbrev pub IsRegion : List Wire → Option Wire → Option WireId → Type 0
IsRegion names None None = Unit {0}
IsRegion names (Some head) (Some w) = (w.0 < length names) × (wire_at names w.0 ≡ head)
IsRegion names others found = ⊥

-- a list has one entry for each of the first wires of a graph, and it is the wire's region
pub record AreRegionsBefore (g : Graph) (count : ℕ) (regions : List (Option WireId)) : Type 0 where
  pub each : length regions ≡ count
  pub are : (w : ℕ) → w < count
      → IsRegion (names_of g) (region_of (program_of g.program).body (wire_at (names_of g) w))
      (slice_index_or regions w None)

-- for each wire of a graph
abbrev pub AreRegions : Graph → List (Option WireId) → Type 0
AreRegions g regions = AreRegionsBefore g (length g.wires.items) regions

-- The wire that says whether a head runs lies in no region.
abbrev pub HeadsAreFree : List (Option WireId) → Type 0
HeadsAreFree regions =
    (w : ℕ) (head : WireId) → w < length regions → slice_index_or regions w None ≡ Some head
    → slice_index_or regions head.0 None ≡ None
