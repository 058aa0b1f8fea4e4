-- Contract: values of the wires of a graph, one for each wire in order.
use Rattle.std.specs.Prelude.{Bool, false, if◌then◌else◌, List, [], ◌∷◌}
use Rattle.grc_graph.specs.Wires.{Wire, same_wire}
use Rattle.grc_graph.specs.Readings.{Valuation}

-- the valuation that gives these wires these values; what is not among them is false
abbrev pub valuation_of : List Wire → List Bool → Valuation
valuation_of [] values = λ w. false
valuation_of (u ∷ us) [] = λ w. false
valuation_of (u ∷ us) (b ∷ bs) = λ w. if same_wire w u then b else valuation_of us bs w
