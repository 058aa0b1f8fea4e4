-- Inner: edges by the numbers of their wires, in the order of the edges; an edge that lacks a wire is left out.
use Rattle.std.specs.Prelude.{ℕ, List, [], ◌∷◌, flat_map, Option, Some, None}
use Rattle.grc_graph.specs.Wires.{Wire}
use Rattle.grc_graph.specs.Edges.{Edge}
use Rattle.grc_graph.specs.WireOrders.{WireEdge}
use Rattle.grc_graph.specs.Neighbouring.{names_in}
use Rattle.grc_dep.specs.declared.lookups.Lookups.{Lookups}
use Rattle.grc_dep.specs.Names.{number_of}

-- the pair of two numbers, where both are there
abbrev pub pair_of : Option ℕ → Option ℕ → List WireEdge
pair_of None j = []
pair_of (Some i) None = []
pair_of (Some i) (Some j) = (record { 0 = i }, record { 0 = j }) ∷ []

unfoldable pub found : List Wire → List Edge → List WireEdge
found wires edges = flat_map (λ e. pair_of (number_of wires e.from) (number_of wires e.to)) edges

-- by the wires that can be looked up
abbrev pub found_by : Lookups → List Edge → List WireEdge
found_by w edges = found (names_in w.tables.now) edges
