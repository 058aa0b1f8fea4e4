-- To believe: the two small netlists of a source, and the lighter one of them.
use Rattle.std.specs.Prelude.{◌≡◌, ℕ, ◌+◌, ◌*◌, List, length, Option, nat_lt, if◌then◌else◌}
use Rattle.base_types.specs.Relations.{Relation}
use Rattle.est_kernel.specs.Plain.{Program}
use Rattle.net_ir.specs.Netlists.{Netlist}
use Rattle.net_ir.specs.Runs.{netlist_of}
use Rattle.net_simp.specs.SimpleNets.{IsSimple}
use Rattle.net_opt.specs.Shown.{EachIsShown}
use Rattle.net_relations.specs.Under.{OptimizesUnder}
use Rattle.cec_compile.specs.Compiling.{StandsForNet}
use Rattle.cec_compile.specs.EncodedTexts.{IsEncoded}
use Rattle.cec_compile.specs.WireGroups.{SharesWires, is_shared}
use Rattle.cec_compile.specs.declared.passes.Compiled.{Compiled}
use Rattle.cec_opt_sources.specs.declared.light.Coding.{Coding}
use Rattle.cec_opt_sources.specs.declared.light.Coding.TheVariants.{Lighter, Encoded}
use Rattle.cec_opt_sources.specs.declared.light.TheConstants.{LATCH_WEIGHT}

-- the weight of a netlist: a latch weighs as much as four gates
abbrev pub weight : Netlist → ℕ
weight net = length net.gates + LATCH_WEIGHT * length net.latches

-- the lighter one of two netlists, the first one where they weigh the same
abbrev pub lighter : Netlist → Netlist → Netlist
lighter plain encoded = if nat_lt (weight encoded) (weight plain) then encoded else plain

-- A netlist, optimized: it has the interface of the given one, follows it over events that meet these relations, and
-- has no more gates and no more latches. Nothing is left to simplify, and something shows each latch and each gate.
pub record IsSmall (relations : List Relation) (given net : Netlist) : Type 0 where
  pub optimizes : OptimizesUnder relations given net
  pub simple : IsSimple net
  pub shown : EachIsShown net

-- The netlist of a compiled program whose latches hold the state in a code, optimized over events that meet the
-- program's relations.
pub record IsEncodedSmall (c : Compiled) (p : Program) (net : Netlist) : Type 0 where
  pub coded : Netlist
  pub codes_state : IsEncoded c p coded
  pub small : IsSmall p.relations coded net

-- The lighter one of two optimized netlists of a compiled program: one of its own netlist, and one of the netlist whose
-- latches hold the state in a code.
pub record IsLightOf (c : Compiled) (p : Program) (net : Netlist) : Type 0 where
  pub plain : Netlist
  pub small : IsSmall p.relations (netlist_of c.net) plain
  pub encoded : Netlist
  pub encoded_small : IsEncodedSmall c p encoded
  pub is : net ≡ lighter plain encoded

-- The source is compiled, with its wires shared where they can be, and the netlist is the lighter one of it.
pub record IsLightSource (bytes : List ℕ) (main : Option (List ℕ)) (c : Compiled) (net : Netlist) : Type 0 where
  pub stands : StandsForNet bytes main c
  pub shares : SharesWires stands.program (is_shared c.graph)
  pub light : IsLightOf c stands.program net

abbrev pub IsLightNetOf : List ℕ → Option (List ℕ) → Netlist → Type 0
IsLightNetOf bytes main net = (c : Compiled) × IsLightSource bytes main c net

-- The same, where the netlist is the one whose latches hold the state in a code.
pub record IsEncodedNetOf (bytes : List ℕ) (main : Option (List ℕ)) (net : Netlist) : Type 0 where
  pub compiled : Compiled
  pub stands : StandsForNet bytes main compiled
  pub shares : SharesWires stands.program (is_shared compiled.graph)
  pub small : IsEncodedSmall compiled stands.program net

-- the netlist of a source that is taken
abbrev pub IsCodedNetOf : Coding → List ℕ → Option (List ℕ) → Netlist → Type 0
IsCodedNetOf Lighter bytes main net = IsLightNetOf bytes main net
IsCodedNetOf Encoded bytes main net = IsEncodedNetOf bytes main net
