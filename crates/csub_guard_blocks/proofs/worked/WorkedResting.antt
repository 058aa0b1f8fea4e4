-- Regions at rest, by hand, and the parts of a text before and behind the blocks.
use Rattle.std.proofs.Common.{◌≡◌, zero, suc, true, false, List, [], ◌∷◌, None, Some, Option, codes, refl, arith, lit<}
use Rattle.std.specs.Fmt.{digits}
use Rattle.base_types.specs.declared.indices.WireId.{WireId}
use Rattle.net_ir.specs.declared.netlist.Op.TheVariants.{Const, Copy, And}
use Rattle.net_ir.specs.declared.netlist.Gate.{Gate}
use Rattle.net_ir.specs.Netlists.{Netlist}
use Rattle.csub_guard_blocks.specs.Blocks.{HasHead, groups, groups_text, parts_before, parts_of_gates}
use Rattle.csub_guard_blocks.specs.Owners.{Free, Inner, Outer}
use Rattle.csub_guard_blocks.specs.Resting.{AreAtRest}

-- net 0 is the input, net 1 the latch, and the gates have the nets from 2 on; wire 0 is the head of wire 1
abbrev worked : Netlist
worked = record {
  name = codes "T";
  inputs = codes "A" ∷ [];
  outputs = record { name = codes "O"; net = record { 0 = 3 } } ∷ [];
  paused = 2;
  latches = record { init = true; from = record { 0 = 2 } } ∷ [];
  gates = record { op = Copy (record { 0 = 0 }); wire = Some (record { 0 = 0 }) }
      ∷ record { op = And (record { 0 = 1 }) (record { 0 = 2 }); wire = Some (record { 0 = 1 }) } ∷ [];
}

abbrev regions : List (Option WireId)
regions = None ∷ Some (record { 0 = 0 }) ∷ []

abbrev gate : Gate
gate = record { op = Const true; wire = None }

differ : true ≡ false → ⊥
differ e = cc

-- the head does not run, and its wire is true
not_at_rest : AreAtRest regions worked (true ∷ true ∷ false ∷ true ∷ []) → ⊥
not_at_rest h = differ (h 1 0 gate (record { 0 = 1 }) (record { 0 = 0 }) (lit< tt) (lit< tt) refl refl refl refl)

at_rest : AreAtRest regions worked (true ∷ true ∷ false ∷ false ∷ [])
at_rest zero j x v w low other is region head rests = refl
at_rest (suc zero) j x v w low other is region head rests = refl
at_rest (suc (suc k)) j x v w low other is region head rests = absurd (omega (arith, low))

-- ---- places of heads, and texts of parts

every_free_gate : HasHead 0 Free
every_free_gate = tt

below_the_count : HasHead 2 (Inner 1) × HasHead 2 (Outer 1)
below_the_count = (lit< tt, lit< tt)

not_at_the_count : HasHead 2 (Inner 2) → ⊥
not_at_the_count h = omega (arith, h)

no_more_at_the_count : HasHead 2 (Outer 2) → ⊥
no_more_at_the_count h = omega (arith, h)

of_groups : groups_text worked (groups 0 worked.gates (Free ∷ Outer 0 ∷ []))
    ≡ codes "w0 = i0;\nif (w0) {\nw1 = s0 & w0;\n} else {\nw1 = 0;\n}\n"
unfolding digits
of_groups = refl

of_gates : parts_of_gates worked ≡ codes "w0 = i0;\n" ∷ codes "w1 = s0 & w0;\n" ∷ []
unfolding digits
of_gates = refl

of_gates_without_wires : parts_of_gates (record worked { gates = gate ∷ gate ∷ [] }) ≡ codes "g0 = 1;\n" ∷ codes "g1 = 1;\n" ∷ []
unfolding digits
of_gates_without_wires = refl

before_the_gates : parts_before worked
    ≡ codes "static int s0 = 1;\n" ∷ codes "int I_A;\n" ∷ codes "int O_O;\n" ∷ codes "int react(void) {\n" ∷ codes "int i0;\n" ∷ codes "int w0;\n"
    ∷ codes "int w1;\n" ∷ codes "int t0;\n" ∷ codes "int r;\n" ∷ codes "i0 = I_A;\n" ∷ []
unfolding digits
before_the_gates = refl
