-- To believe: the netlist of a BLIF text, and its optimized one.
use Rattle.std.specs.Prelude.{◌≡◌, ℕ, List, Ok}
use Rattle.base_types.specs.Relations.{Relation}
use Rattle.net_ir.specs.Netlists.{Netlist}
use Rattle.net_opt.specs.Shown.{EachIsShown}
use Rattle.net_simp.specs.SimpleNets.{IsSimple}
use Rattle.blif_text.specs.Circuits.{Circuit, reading}
use Rattle.net_relations.specs.Under.{OptimizesUnder}
use Rattle.blif_net.specs.Conversions.{IsNetOf}
use Rattle.cec_opt_texts.specs.Related.{GivenRelation, numbered_relations}

-- The new netlist is another one, optimized where its inputs meet the given relations, which name inputs. It has the
-- interface of the other one and follows it over the events that meet the relations. It has no more gates and no more
-- latches, nothing is left to simplify, and something shows each latch and each gate.
pub record IsSmallFor (given : List GivenRelation) (made net : Netlist) : Type 0 where
  pub relations : List Relation
  pub named : numbered_relations made.inputs given ≡ Ok relations
  pub optimizes : OptimizesUnder relations made net
  pub simple : IsSimple net
  pub shown : EachIsShown net

-- the same of the netlist of a circuit
pub record IsSmallOf (circuit : Circuit) (given : List GivenRelation) (net : Netlist) : Type 0 where
  pub made : Netlist
  pub is : IsNetOf circuit made
  pub small : IsSmallFor given made net

-- and the text describes that circuit
pub record IsSmallNetOf (text : List ℕ) (given : List GivenRelation) (net : Netlist) : Type 0 where
  pub circuit : Circuit
  pub reads : reading text ≡ Ok circuit
  pub small : IsSmallOf circuit given net

-- The text of a form, BLIF, C or Verilog, that is written of such a netlist.
pub record IsSmallText (text : List ℕ) (given : List GivenRelation) (written_of : Netlist → List ℕ)
    (written : List ℕ) : Type 0 where
  pub net : Netlist
  pub small : IsSmallNetOf text given net
  pub is : written ≡ written_of net

-- The netlist of a text: that of the circuit that it describes.
pub record IsTextNet (text : List ℕ) (net : Netlist) : Type 0 where
  pub circuit : Circuit
  pub reads : reading text ≡ Ok circuit
  pub is : IsNetOf circuit net
