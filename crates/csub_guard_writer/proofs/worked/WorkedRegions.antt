-- Regions of gates by hand: those of the wires that they carry.
use Rattle.std.proofs.Common.{◌≡◌, ℕ, true, false, List, [], ◌∷◌, None, Some, Option, codes, map, refl}
use Rattle.base_types.specs.declared.indices.WireId.{WireId}
use Rattle.net_ir.specs.declared.netlist.Op.TheVariants.{Const}
use Rattle.net_ir.specs.declared.netlist.Gate.{Gate}
use Rattle.net_ir.specs.Netlists.{Netlist}
use Rattle.csub_guard_writer.specs.Regions.{carrier, if_head, is_wire, region_by}

abbrev carries : ℕ → Gate
carries w = record { op = Const true; wire = Some (record { 0 = w }) }

-- gates that carry the wires 3, none, 1, 0 and 2
abbrev worked : Netlist
worked = record {
  name = codes "T";
  inputs = [];
  outputs = [];
  paused = 0;
  latches = [];
  gates = carries 3 ∷ record { op = Const false; wire = None } ∷ carries 1 ∷ carries 0 ∷ carries 2 ∷ [];
}

same_wires : is_wire 2 None ∷ is_wire 2 (Some (record { 0 = 2 })) ∷ is_wire 2 (Some (record { 0 = 3 })) ∷ [] ≡ false ∷ true ∷ false ∷ []
same_wires = refl

carriers : map (carrier 5 worked.gates) (0 ∷ 1 ∷ 2 ∷ 3 ∷ 4 ∷ []) ≡ Some 8 ∷ Some 7 ∷ Some 9 ∷ Some 5 ∷ None ∷ []
carriers = refl

heads_lie_in_no_region : if_head (Some None) (Some 4) ∷ if_head (Some (Some (record { 0 = 1 }))) (Some 4) ∷
    if_head None (Some 4) ∷ [] ≡ Some 4 ∷ None ∷ None ∷ []
heads_lie_in_no_region = refl

-- wire 1 is the head of 0 and 3; wire 2 lies in the region of 0, which is none
abbrev regions : List (Option WireId)
regions = Some (record { 0 = 1 }) ∷ None ∷ Some (record { 0 = 0 }) ∷ Some (record { 0 = 1 }) ∷ []

regions_of_gates : map (region_by worked regions) (0 ∷ 1 ∷ 2 ∷ 3 ∷ 4 ∷ 5 ∷ []) ≡
    Some 2 ∷ None ∷ None ∷ Some 2 ∷ None ∷ None ∷ []
regions_of_gates = refl
