-- Edges between a few wires, along places by hand.
use Rattle.std.proofs.Common.{◌≡◌, ℕ, [], ◌∷◌, refl}
use Rattle.grc_graph.specs.WireOrders.{WireEdge}
use Rattle.grc_cycles.specs.Cuts.{component_count, cut_count}

abbrev e : ℕ → ℕ → WireEdge
e from to = (record { 0 = from }, record { 0 = to })

-- a chain has no cycle, whichever way its wires are numbered, where its places go up
chain : component_count (2 ∷ 1 ∷ 0 ∷ []) (e 1 0 ∷ e 2 1 ∷ []) ≡ 0
chain = refl

chain-cuts : cut_count (2 ∷ 1 ∷ 0 ∷ []) (e 1 0 ∷ e 2 1 ∷ []) ≡ 0
chain-cuts = refl

-- two wires that depend on each other
pair : component_count (0 ∷ 1 ∷ []) (e 0 1 ∷ e 1 0 ∷ []) ≡ 1
pair = refl

pair-cuts : cut_count (0 ∷ 1 ∷ []) (e 0 1 ∷ e 1 0 ∷ []) ≡ 1
pair-cuts = refl

-- a wire that depends on itself
self : component_count (0 ∷ []) (e 0 0 ∷ []) ≡ 1
self = refl

-- two cycles one after the other, and a wire between them that is on none
two : component_count (0 ∷ 1 ∷ 2 ∷ 3 ∷ 4 ∷ []) (e 0 1 ∷ e 1 0 ∷ e 1 2 ∷ e 2 3 ∷ e 3 4 ∷ e 4 3 ∷ []) ≡ 2
two = refl

two-cuts : cut_count (0 ∷ 1 ∷ 2 ∷ 3 ∷ 4 ∷ []) (e 0 1 ∷ e 1 0 ∷ e 1 2 ∷ e 2 3 ∷ e 3 4 ∷ e 4 3 ∷ []) ≡ 2
two-cuts = refl

-- two cycles through one wire are one component; the places decide whether one wire cuts both
joined : component_count (0 ∷ 1 ∷ 2 ∷ []) (e 0 1 ∷ e 0 2 ∷ e 1 0 ∷ e 2 0 ∷ []) ≡ 1
joined = refl

joined-low : cut_count (0 ∷ 1 ∷ 2 ∷ []) (e 0 1 ∷ e 0 2 ∷ e 1 0 ∷ e 2 0 ∷ []) ≡ 1
joined-low = refl

joined-high : cut_count (2 ∷ 0 ∷ 1 ∷ []) (e 0 1 ∷ e 0 2 ∷ e 1 0 ∷ e 2 0 ∷ []) ≡ 2
joined-high = refl
