-- To believe: the nodes of the control-flow graph, one per live instance (Potop-Butucaru, Edwards and Berry,
-- "Compiling Esterel").
use Rattle.std.specs.Prelude.{ℕ, ◌+◌, Option}
use Rattle.est_kernel.specs.Terms.{Term, Nothing, Pause, Emit, Exit, Present, Suspend, Seq, Loop, Par, Trap, Local}
use Rattle.est_kernel.specs.Terms.{Awake}
use Rattle.est_kernel.specs.Preorder.{statement_count}
use Rattle.grc_graph.specs.Layers.{Layer, Resumed, Started}
use Rattle.grc_graph.specs.Scopes.{Scope}
use Rattle.grc_graph.specs.Wires.{Wire, StatusOf, status_wire}
use Rattle.grc_graph.specs.Spots.{Spot}

-- A fork starts the branches of a parallel with these numbers, and a sync waits for those of a resumed one. A switch
-- resumes the part that holds a selected pause; a test chooses a branch, or suspends; a pause is entered; an emission
-- and a definition name a status wire; an exit has a code. Every other instance passes control through.
pub data Node : Type 0 where
  Fork : (c d : ℕ) (l : Layer) → Node
  Sync : (n : ℕ) (l : Layer) → Node
  Switch : (n : ℕ) (l : Layer) → Node
  Tested : (n : ℕ) (l : Layer) → Node
  Enter : (n : ℕ) (l : Layer) → Node
  Emission : (n : ℕ) (l : Layer) (w : Option Wire) → Node
  Definition : (n : ℕ) (l : Layer) (w : Wire) → Node
  Leave : (n : ℕ) (l : Layer) (k : ℕ) → Node
  Through : (n : ℕ) (l : Layer) → Node

abbrev pub node_at : Scope → Term → ℕ → Layer → Node
node_at B Nothing n l = Through n l
node_at B Pause n Resumed = Through n Resumed
node_at B Pause n (Started r) = Enter n (Started r)
node_at B (Emit s) n l = Emission n l (status_wire (B s) s l)
node_at B (Exit k) n l = Leave n l k
node_at B (Present e p q) n Resumed = Switch n Resumed
node_at B (Present e p q) n (Started r) = Tested n (Started r)
node_at B (Suspend e p) n Resumed = Tested n Resumed
node_at B (Suspend e p) n (Started r) = Through n (Started r)
node_at B (Seq p q) n Resumed = Switch n Resumed
node_at B (Seq p q) n (Started r) = Through n (Started r)
node_at B (Loop at p) n l = Through n l
node_at B (Par p q) n Resumed = Sync n Resumed
node_at B (Par p q) n (Started r) = Fork (n + 1) (n + 1 + statement_count p) (Started r)
node_at B (Trap p) n l = Through n l
node_at B (Local s p) n l = Definition n l (StatusOf n l)
node_at B (Awake e p) n l = Through n l

abbrev pub spot_node : Spot → Node
spot_node x = node_at x.scope x.statement x.path x.layer
