-- Inner: edges by the numbers of shared wires.
use Rattle.std.specs.Prelude.{ℕ, List, map, slice_index}
use Rattle.grc_graph.specs.WireOrders.{WireEdge}

-- edges between wires, where the wires have these numbers
abbrev pub numbered_pairs : List ℕ → List WireEdge → List (ℕ × ℕ)
numbered_pairs numbers pairs = map (λ e. (slice_index numbers e.0.0, slice_index numbers e.1.0)) pairs

-- the same as edges between wires
abbrev pub numbered_edges : List ℕ → List WireEdge → List WireEdge
numbered_edges numbers pairs =
    map (λ e. (record { 0 = slice_index numbers e.0.0 }, record { 0 = slice_index numbers e.1.0 })) pairs
