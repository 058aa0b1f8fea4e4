-- To believe: the paths of the statements of a body, and the names of wires by paths. A number that is out of range,
-- which no graph has, is read as the body's path, and as a signal with the empty name.
use Rattle.std.specs.Prelude.{ℕ, List, [], ◌∷◌, ◌++◌, map, slice_index_or, Option, Some, None}
use Rattle.est_kernel.specs.Terms.{Term, Nothing, Pause, Emit, Exit, Present, Suspend, Seq, Loop, Par, Trap, Local}
use Rattle.est_kernel.specs.Terms.{Awake}
use Rattle.est_kernel.specs.Preorder.{preorder}
use Rattle.est_kernel.specs.Plain.{Program}
use Rattle.grc_graph.specs.Layers as layers
use Rattle.grc_graph.specs.Wires as wires

-- the paths of a part, as the whole has them; the part has this child number
abbrev pub below : ℕ → List (List ℕ) → List (List ℕ)
below child paths = map (λ path. child ∷ path) paths

-- The paths of a statement and of all statements in it, in preorder: the path of the one with number n stands at place
-- n. A path is the list of the child numbers from the statement down.
abbrev pub paths : Term → List (List ℕ)
paths Nothing = [] ∷ []
paths Pause = [] ∷ []
paths (Emit s) = [] ∷ []
paths (Exit k) = [] ∷ []
paths (Present e p q) = [] ∷ (below 0 (paths p) ++ below 1 (paths q))
paths (Suspend e p) = [] ∷ below 0 (paths p)
paths (Seq p q) = [] ∷ (below 0 (paths p) ++ below 1 (paths q))
paths (Loop at p) = [] ∷ below 0 (paths p)
paths (Par p q) = [] ∷ (below 0 (paths p) ++ below 1 (paths q))
paths (Trap p) = [] ∷ below 0 (paths p)
paths (Local s p) = [] ∷ below 0 (paths p)
paths (Awake e p) = [] ∷ below 0 (paths p)

-- the path of the statement with a number
abbrev pub path_at : Term → ℕ → List ℕ
path_at body n = slice_index_or (paths body) n []

-- the name of a signal by its number
abbrev pub signal_name : List (List ℕ) → ℕ → List ℕ
signal_name signals s = slice_index_or signals s []

-- the signal that a statement binds
abbrev pub bound_signal : Term → Option ℕ
bound_signal Nothing = None
bound_signal Pause = None
bound_signal (Emit s) = None
bound_signal (Exit k) = None
bound_signal (Present e p q) = None
bound_signal (Suspend e p) = None
bound_signal (Seq p q) = None
bound_signal (Loop at p) = None
bound_signal (Par p q) = None
bound_signal (Trap p) = None
bound_signal (Local s p) = Some s
bound_signal (Awake e p) = None

-- the name of a bound signal
abbrev pub bound_name : List (List ℕ) → Option ℕ → List ℕ
bound_name signals None = []
bound_name signals (Some s) = signal_name signals s

-- the signal that the statement with a number binds
abbrev pub bound_at : Term → ℕ → Option ℕ
bound_at body n = bound_signal (slice_index_or (preorder body) n Nothing)

pub data LayerName : Type 0 where
  Resumed : LayerName
  Started : (root : List ℕ) → LayerName

pub data WireName : Type 0 where
  Out : (signal : List ℕ) → WireName
  Go : (path : List ℕ) (l : LayerName) → WireName
  StatusOf : (path : List ℕ) (l : LayerName) (signal : List ℕ) → WireName
  End : (path : List ℕ) (l : LayerName) (k : ℕ) → WireName

abbrev pub layer_name : Term → layers.Layer → LayerName
layer_name body layers.Resumed = Resumed
layer_name body (layers.Started r) = Started (path_at body r)

-- the name of a wire of a program's graph
abbrev pub wire_name : Program → wires.Wire → WireName
wire_name p (wires.Out s) = Out (signal_name p.signals s)
wire_name p (wires.Go n l) = Go (path_at p.body n) (layer_name p.body l)
wire_name p (wires.StatusOf n l) =
    StatusOf (path_at p.body n) (layer_name p.body l) (bound_name p.signals (bound_at p.body n))
wire_name p (wires.End n l k) = End (path_at p.body n) (layer_name p.body l) k
