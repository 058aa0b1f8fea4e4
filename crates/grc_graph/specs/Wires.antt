-- To believe: the wires of a graph, by name.
use Rattle.std.specs.Prelude.{ℕ, zero, suc, Bool, false, ◌==◌, ◌&&◌, if◌then◌else◌, List, [], ◌∷◌, ◌++◌, map, Option}
use Rattle.std.specs.Prelude.{Some, None}
use Rattle.est_kernel.specs.Terms.{Term, Local}
use Rattle.est_kernel.specs.StaticCodes.{started_codes, resumed_codes}
use Rattle.grc_graph.specs.Layers.{Layer, Resumed, Started, layer_above, same_layer}
use Rattle.grc_graph.specs.Scopes.{Binding, Entering, Outgoing, BoundAt, Unbound}

-- An instance is a statement in a layer. Out s says that the outgoing signal s is present. Go says that the
-- instance runs. End says that it runs and completes with this code. StatusOf says that the signal of the Local
-- at n is present, as this instance of the Local has it.
pub data Wire : Type 0 where
  Out : (s : ℕ) → Wire
  Go : (n : ℕ) (l : Layer) → Wire
  StatusOf : (n : ℕ) (l : Layer) → Wire
  End : (n : ℕ) (l : Layer) (k : ℕ) → Wire

abbrev pub same_wire : Wire → Wire → Bool
same_wire (Out s) (Out t) = s == t
same_wire (Out s) (Go n l) = false
same_wire (Out s) (StatusOf n l) = false
same_wire (Out s) (End n l k) = false
same_wire (Go m j) (Out t) = false
same_wire (Go m j) (Go n l) = m == n && same_layer j l
same_wire (Go m j) (StatusOf n l) = false
same_wire (Go m j) (End n l k) = false
same_wire (StatusOf m j) (Out t) = false
same_wire (StatusOf m j) (Go n l) = false
same_wire (StatusOf m j) (StatusOf n l) = m == n && same_layer j l
same_wire (StatusOf m j) (End n l k) = false
same_wire (End m j i) (Out t) = false
same_wire (End m j i) (Go n l) = false
same_wire (End m j i) (StatusOf n l) = false
same_wire (End m j i) (End n l k) = m == n && (same_layer j l && i == k)

-- the codes of a set that are below n, ascending
unfoldable pub codes_below : ℕ → (ℕ → Bool) → List ℕ
codes_below zero A = []
codes_below (suc n) A = codes_below n A ++ (if A n then n ∷ [] else [])

-- the codes of a set; those of a kernel are below 64
unfoldable pub listed : (ℕ → Bool) → List ℕ
listed A = codes_below 64 A

-- the codes of an instance
abbrev pub instance_codes : Term → Layer → ℕ → Bool
instance_codes t Resumed = resumed_codes t
instance_codes t (Started r) = started_codes t

-- the status wire of a signal with this binding, number s, as seen from a place in this layer; what only enters
-- has none
abbrev pub status_wire : Binding → ℕ → Layer → Option Wire
status_wire Entering s l = None
status_wire Outgoing s l = Some (Out s)
status_wire (BoundAt b) s l = Some (StatusOf b (layer_above b l))
status_wire Unbound s l = None

-- the status wire of a Local, which has one
abbrev pub own_status : Term → ℕ → Layer → List Wire
own_status (Local s p) n l = StatusOf n l ∷ []
own_status t n l = []

-- the wires of an instance, in order
abbrev pub instance_wires : Term → ℕ → Layer → List Wire
instance_wires t n l = Go n l ∷ (own_status t n l ++ map (λ k. End n l k) (listed (instance_codes t l)))
