-- Inner: edges by the code of an end.
use Rattle.std.specs.Prelude.{ℕ, Bool, nat_le, List, map, filter}
use Rattle.est_kernel.specs.Steps.{trap_code}
use Rattle.grc_graph.specs.Instances.{Instance}
use Rattle.grc_graph.specs.Layers.{Layer}
use Rattle.grc_graph.specs.Wires.{Wire, Go, End, listed}
use Rattle.grc_graph.specs.Edges.{Edge, edge}

-- from the `go` of an instance to its end with this code
abbrev pub go_to_end : Instance → ℕ → Edge
go_to_end x k = edge (Go x.path x.layer) (End x.path x.layer k)

-- from the end of a part with this code to that of its whole
abbrev pub end_to_end : (part whole : Instance) → ℕ → Edge
end_to_end x y k = edge (End x.path x.layer k) (End y.path y.layer k)

-- from the end of a trap's body with this code to that of the trap
abbrev pub trapped_to_end : (part whole : Instance) → ℕ → Edge
trapped_to_end x y j = edge (End x.path y.layer j) (End y.path y.layer (trap_code j))

-- from a wire to each end of a parallel at n with a code that is at least j
abbrev pub to_ends_above : (C : ℕ → Bool) (u : Wire) (j n : ℕ) (l : Layer) → List Edge
to_ends_above C u j n l = map (λ k. edge u (End n l k)) (filter (λ k. nat_le j k) (listed C))

-- from each end of a branch with these codes
abbrev pub branch_edges : (C : ℕ → Bool) (part whole : Instance) → ℕ → List Edge
branch_edges C x y j = to_ends_above C (End x.path y.layer j) j y.path y.layer
