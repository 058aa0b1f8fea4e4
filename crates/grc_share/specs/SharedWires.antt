-- To believe: the shared wires of a program, each with the name of its least member, and the edges between them.
use Rattle.std.specs.Prelude.{ℕ, Bool, true, false, ◌==◌, ◌&&◌, if◌then◌else◌, List, [], ◌∷◌, map, filter}
use Rattle.est_kernel.specs.Plain.{Program}
use Rattle.grc_graph.specs.Edges.{Edge, edge}
use Rattle.grc_graph.specs.GraphRuns.{program_edges, program_wires}
use Rattle.grc_graph.specs.Layers.{Layer, Resumed, Started, layers_of, same_layer}
use Rattle.grc_graph.specs.Wires.{Wire, Out, Go, StatusOf, End, same_wire}
use Rattle.grc_share.specs.SharedInstances.{Sharing, body_sharing, key, one_instance, one_status}

-- Two wires are one shared wire: what runs, and what ends with the same code, where the instances are one; what is
-- present, where the statuses are one. An outgoing signal's wire is one by itself.
abbrev pub one_wire : Sharing → Wire → Wire → Bool
one_wire K (Out s) (Out t) = s == t
one_wire K (Out s) (Go n l) = false
one_wire K (Out s) (StatusOf n l) = false
one_wire K (Out s) (End n l k) = false
one_wire K (Go m j) (Out t) = false
one_wire K (Go m j) (Go n l) = m == n && one_instance K n j l
one_wire K (Go m j) (StatusOf n l) = false
one_wire K (Go m j) (End n l k) = false
one_wire K (StatusOf m j) (Out t) = false
one_wire K (StatusOf m j) (Go n l) = false
one_wire K (StatusOf m j) (StatusOf n l) = m == n && one_status K n j l
one_wire K (StatusOf m j) (End n l k) = false
one_wire K (End m j i) (Out t) = false
one_wire K (End m j i) (Go n l) = false
one_wire K (End m j i) (StatusOf n l) = false
one_wire K (End m j i) (End n l k) = m == n && (one_instance K n j l && i == k)

-- the first of the roots that has the key of a root
abbrev pub first_root : (ℕ → ℕ) → List ℕ → ℕ → ℕ
first_root c [] r = r
first_root c (s ∷ ss) r = if c s == c r then s else first_root c ss r

-- the layer that names a shared instance: of starts that are one, the first
abbrev pub shared_layer : Sharing → ℕ → Layer → Layer
shared_layer K n Resumed = Resumed
shared_layer K n (Started r) = Started (first_root K.root (K.live n).roots r)

-- the layer that names a shared status: of those that are one, that of what is resumed, else the first start
abbrev pub status_layer : Sharing → ℕ → Layer → Layer
status_layer K n l =
    if (K.live n).resumed && K.resumed n == key K n l then Resumed else shared_layer K n l

-- the shared wire that a wire is one with, by the name of its least member
abbrev pub shared_wire : Sharing → Wire → Wire
shared_wire K (Out s) = Out s
shared_wire K (Go n l) = Go n (shared_layer K n l)
shared_wire K (StatusOf n l) = StatusOf n (status_layer K n l)
shared_wire K (End n l k) = End n (shared_layer K n l) k

-- the layers of a statement that name its shared instances
abbrev pub shared_layers : Sharing → ℕ → List Layer
shared_layers K n = filter (λ l. same_layer (shared_layer K n l) l) (layers_of (K.live n))

-- whether a layer is that of a start
abbrev pub is_started : Layer → Bool
is_started Resumed = false
is_started (Started r) = true

-- the shared wires of a program, in the order of their least members
abbrev pub shared_wires : Program → List Wire
shared_wires p = filter (λ w. same_wire (shared_wire (body_sharing p.body) w) w) (program_wires p)

-- the wires of a program that are one with a wire
abbrev pub members : Program → Wire → List Wire
members p u = filter (λ w. one_wire (body_sharing p.body) w u) (program_wires p)

-- the edges between shared wires: one for each edge between their members
abbrev pub shared_edge : Sharing → Edge → Edge
shared_edge K e = edge (shared_wire K e.from) (shared_wire K e.to)

abbrev pub shared_edges : Program → List Edge
shared_edges p = map (shared_edge (body_sharing p.body)) (program_edges p)
