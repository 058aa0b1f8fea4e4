-- Worked regions of wires by number, by hand: which number stands for which region, and heads that lie in one.
use Rattle.std.proofs.Common.{◌≡◌, ◌<◌, ℕ, zero, suc, List, [], ◌∷◌, length, Some, None, Option, refl, arith, lit<}
use Rattle.std.specs.Prelude.{slice_index_or}
use Rattle.base_types.specs.declared.indices.WireId.{WireId}
use Rattle.est_kernel.specs.Plain.{program_of}
use Rattle.grc_graph.specs.Layers.{Resumed}
use Rattle.grc_graph.specs.PlainGraphs.{names_of, wire_at}
use Rattle.grc_graph.specs.Wires.{Wire, Out, Go}
use Rattle.grc_graph.specs.declared.graph.Graph.{Graph}
use Rattle.grc_solutions_laws.specs.Heads.{region_of}
use Rattle.grc_regions.specs.Regions.{IsRegion, AreRegions, HeadsAreFree}

abbrev names : List Wire
names = Out 0 ∷ Go 0 Resumed ∷ []

no_region : IsRegion names None None
no_region = tt

by_the_number_of_its_head : IsRegion names (Some (Go 0 Resumed)) (Some (record { 0 = 1 }))
by_the_number_of_its_head = (lit< tt, refl)

of_another_head : IsRegion names (Some (Go 0 Resumed)) (Some (record { 0 = 0 })) → ⊥
of_another_head h = let e = h.1 in differ e
  where
    differ : Out 0 ≡ Go 0 Resumed → ⊥
    differ e = cc

of_no_wire : IsRegion names (Some (Out 0)) (Some (record { 0 = 2 })) → ⊥
of_no_wire h = let low = h.0 in omega (arith, low)

none_for_a_region : IsRegion names (Some (Out 0)) None → ⊥
none_for_a_region h = h

one_for_none : IsRegion names None (Some (record { 0 = 0 })) → ⊥
one_for_none h = h

each_wire : (g : Graph) (regions : List (Option WireId)) → AreRegions g regions → length regions ≡ length g.wires.items
each_wire g regions h = h.each

its_region : (g : Graph) (regions : List (Option WireId)) → AreRegions g regions → (w : ℕ) → w < length g.wires.items
    → IsRegion (names_of g) (region_of (program_of g.program).body (wire_at (names_of g) w)) (slice_index_or regions w None)
its_region g regions h = h.are

-- the second wire lies in the region of the first, which lies in none
abbrev free : List (Option WireId)
free = None ∷ Some (record { 0 = 0 }) ∷ []

a_free_head : HeadsAreFree free
a_free_head zero head low is = absurd (differ head is)
  where
    differ : (head : WireId) → None ≡ Some head → ⊥
    differ head e = cc
a_free_head (suc zero) head low is = at head is
  where
    at : (head : WireId) → Some (record { 0 = 0 }) ≡ Some head → slice_index_or free head.0 None ≡ None
    at head e = cc
a_free_head (suc (suc w)) head low is = absurd (omega (arith, low))

abbrev the_first : Option WireId
the_first = Some (record { 0 = 0 })

-- each lies in the region of the other
no_free_head : HeadsAreFree (Some (record { 0 = 1 }) ∷ Some (record { 0 = 0 }) ∷ []) → ⊥
no_free_head h = differ (h 0 (record { 0 = 1 }) (lit< tt) refl)
  where
    differ : the_first ≡ None → ⊥
    differ e = cc
