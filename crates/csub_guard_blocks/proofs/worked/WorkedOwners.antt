-- A netlist by hand: to which head each gate belongs, row by row and as a whole, and the guarded text.
use Rattle.std.proofs.Common.{◌≡◌, ◌==◌, ℕ, true, false, List, [], ◌∷◌, ◌++◌, None, Some, Option, codes, map, refl}
use Rattle.std.specs.Fmt.{digits}
use Rattle.std.specs.Prelude.{if◌then◌else◌}
use Rattle.net_ir.specs.declared.netlist.Op.TheVariants.{Const, Copy, Not, And, Or}
use Rattle.net_ir.specs.declared.netlist.Gate.{Gate}
use Rattle.net_ir.specs.Netlists.{Netlist}
use Rattle.csub_guard_blocks.specs.Owners.{Free, Inner, Outer, Unused, Within, Mixed, both, usage_by, with_gate, usage_beside, usage}
use Rattle.csub_guard_blocks.specs.Owners.{owner_by, behind, in_region, by_use, owner_of, owners}
use Rattle.csub_guard_blocks.specs.Blocks.{Single, Run, groups, guarded_text, head_of, is_outer, members_between}

-- ---- uses

pairs_of_uses : both Unused Mixed ∷ both (Within 1) Unused ∷ both Unused (Within 2) ∷ both (Within 1) (Within 1) ∷ both (Within 1) (Within 2) ∷ []
    ≡ Mixed ∷ Within 1 ∷ Within 2 ∷ Within 1 ∷ Mixed ∷ []
pairs_of_uses = refl

mixed_uses : both (Within 1) Mixed ∷ both Mixed Unused ∷ both Mixed (Within 1) ∷ both Unused Unused ∷ [] ≡ Mixed ∷ Mixed ∷ Mixed ∷ Unused ∷ []
mixed_uses = refl

uses_by_gates : map usage_by (Free ∷ Inner 3 ∷ Outer 3 ∷ []) ≡ Mixed ∷ Within 3 ∷ Within 3 ∷ []
uses_by_gates = refl

by_operators : map (λ op. with_gate (Inner 2) op 5 Unused)
    (Const true ∷ Copy (record { 0 = 5 }) ∷ Copy (record { 0 = 4 }) ∷ Not (record { 0 = 5 }) ∷ And (record { 0 = 5 }) (record { 0 = 4 })
    ∷ And (record { 0 = 4 }) (record { 0 = 5 }) ∷ Or (record { 0 = 5 }) (record { 0 = 4 }) ∷ Or (record { 0 = 4 }) (record { 0 = 5 })
    ∷ Or (record { 0 = 4 }) (record { 0 = 6 }) ∷ [])
    ≡ Unused ∷ Within 2 ∷ Unused ∷ Within 2 ∷ Within 2 ∷ Within 2 ∷ Within 2 ∷ Within 2 ∷ Unused ∷ []
by_operators = refl

-- ---- one gate

by_its_head : map (owner_by 1) (Unused ∷ Within 1 ∷ Within 2 ∷ Mixed ∷ []) ≡ Inner 1 ∷ Inner 1 ∷ Outer 1 ∷ Outer 1 ∷ []
by_its_head = refl

behind_its_head : behind 2 1 (Outer 1) ∷ behind 1 1 (Outer 1) ∷ behind 0 1 (Outer 1) ∷ [] ≡ Outer 1 ∷ Free ∷ Free ∷ []
behind_its_head = refl

in_regions : in_region 4 None Mixed ∷ in_region 4 (Some 1) Mixed ∷ in_region 4 (Some 1) Unused ∷ in_region 1 (Some 1) Unused ∷ []
    ≡ Free ∷ Outer 1 ∷ Inner 1 ∷ Free ∷ []
in_regions = refl

by_uses_alone : by_use 4 Unused ∷ by_use 4 (Within 1) ∷ by_use 1 (Within 1) ∷ by_use 4 Mixed ∷ [] ≡ Free ∷ Inner 1 ∷ Free ∷ Free ∷ []
by_uses_alone = refl

with_and_without_a_wire : owner_of (λ k. Some 1) 4 None Mixed ∷ owner_of (λ k. Some 1) 4 (Some (record { 0 = 0 })) Mixed
    ∷ owner_of (λ k. None) 4 (Some (record { 0 = 0 })) (Within 1) ∷ owner_of (λ k. None) 4 None (Within 1) ∷ [] ≡ Free ∷ Outer 1 ∷ Free ∷ Inner 1 ∷ []
with_and_without_a_wire = refl

-- ---- a whole netlist

abbrev worked : Netlist
worked = record {
  name = codes "T";
  inputs = codes "A" ∷ codes "B" ∷ [];
  outputs = record { name = codes "O"; net = record { 0 = 7 } } ∷ [];
  paused = 3;
  latches = record { init = true; from = record { 0 = 3 } } ∷ [];
  gates = record { op = And (record { 0 = 0 }) (record { 0 = 1 }); wire = Some (record { 0 = 0 }) }
      ∷ record { op = Copy (record { 0 = 2 }); wire = None }
      ∷ record { op = And (record { 0 = 3 }) (record { 0 = 4 }); wire = Some (record { 0 = 1 }) }
      ∷ record { op = Not (record { 0 = 5 }); wire = None }
      ∷ record { op = Or (record { 0 = 5 }) (record { 0 = 6 }); wire = Some (record { 0 = 2 }) } ∷ [];
}

-- the third and the fifth gate lie in the region of the first
abbrev region : ℕ → Option ℕ
region k = if k == 2 then Some 0 else if k == 4 then Some 0 else None

beside_gates : map (usage_beside worked) (2 ∷ 3 ∷ 4 ∷ 7 ∷ []) ≡ Unused ∷ Mixed ∷ Unused ∷ Mixed ∷ []
beside_gates = refl

how_nets_are_used : map (usage worked worked.gates (Free ∷ Inner 0 ∷ Inner 0 ∷ Inner 0 ∷ Outer 0 ∷ [])) (0 ∷ 2 ∷ 3 ∷ 4 ∷ 5 ∷ 6 ∷ 7 ∷ 8 ∷ [])
    ≡ Mixed ∷ Within 0 ∷ Mixed ∷ Within 0 ∷ Within 0 ∷ Within 0 ∷ Mixed ∷ Unused ∷ []
how_nets_are_used = refl

how_gates_belong : owners worked region ≡ Free ∷ Inner 0 ∷ Inner 0 ∷ Inner 0 ∷ Outer 0 ∷ []
how_gates_belong = refl

without_regions : owners worked (λ k. None) ≡ Free ∷ Free ∷ Free ∷ Free ∷ Free ∷ []
without_regions = refl

-- ---- its text

heads : map head_of (Free ∷ Inner 1 ∷ Outer 2 ∷ []) ≡ None ∷ Some 1 ∷ Some 2 ∷ []
heads = refl

outer_ones : map is_outer (Free ∷ Inner 1 ∷ Outer 2 ∷ []) ≡ false ∷ false ∷ true ∷ []
outer_ones = refl

abbrev gate : Gate
gate = record { op = Const true; wire = None }

side_by_side : groups 3 (gate ∷ gate ∷ gate ∷ gate ∷ gate ∷ []) (Inner 1 ∷ Outer 1 ∷ Inner 2 ∷ Free ∷ Inner 2 ∷ [])
    ≡ Run 1 (record { place = 3; gate = gate; shown = false } ∷ record { place = 4; gate = gate; shown = true } ∷ [])
    ∷ Run 2 (record { place = 5; gate = gate; shown = false } ∷ []) ∷ Single 6 gate ∷ Run 2 (record { place = 7; gate = gate; shown = false } ∷ []) ∷ []
side_by_side = refl

between_places : members_between (gate ∷ gate ∷ gate ∷ gate ∷ []) (Free ∷ Outer 0 ∷ Inner 0 ∷ Free ∷ []) 1 3
    ≡ record { place = 1; gate = gate; shown = true } ∷ record { place = 2; gate = gate; shown = false } ∷ []
between_places = refl

the_text : guarded_text worked (owners worked region)
    ≡ codes "static int s0 = 1;\nint I_A;\nint I_B;\nint O_O;\nint react(void) {\n"
    ++ (codes "int i0;\nint i1;\nint w0;\nint g1;\nint w1;\nint g3;\nint w2;\nint t0;\nint r;\n"
    ++ (codes "i0 = I_A;\ni1 = I_B;\nw0 = i0 & i1;\nif (w0) {\ng1 = s0;\nw1 = w0 & g1;\ng3 = !w1;\nw2 = w1 | g3;\n} else {\nw2 = 0;\n}\n"
    ++ codes "t0 = w0;\nO_O = w2;\nr = w0;\ns0 = t0;\nreturn r;\n}\n"))
unfolding digits
the_text = refl

-- of a head whose gates nothing else uses there is no second half
nothing_shown : guarded_text (record worked { outputs = [] }) (owners (record worked { outputs = [] }) region)
    ≡ codes "static int s0 = 1;\nint I_A;\nint I_B;\nint react(void) {\n"
    ++ (codes "int i0;\nint i1;\nint w0;\nint g1;\nint w1;\nint g3;\nint w2;\nint t0;\nint r;\n"
    ++ (codes "i0 = I_A;\ni1 = I_B;\nw0 = i0 & i1;\nif (w0) {\ng1 = s0;\nw1 = w0 & g1;\ng3 = !w1;\nw2 = w1 | g3;\n}\n"
    ++ codes "t0 = w0;\nr = w0;\ns0 = t0;\nreturn r;\n}\n"))
unfolding digits
nothing_shown = refl
