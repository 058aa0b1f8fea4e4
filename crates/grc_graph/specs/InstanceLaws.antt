-- Contract: what the live instances and the selection tree of a body must be.
use Rattle.std.specs.Prelude.{◌≡◌, ℕ, Bool, true, false, ◌&&◌, map, filter, All, Contains, slice_index_or}
use Rattle.est_kernel.specs.Terms.{Term, Nothing, Pause, Emit, Exit, Present, Suspend, Seq, Loop, Par, Trap, Local}
use Rattle.est_kernel.specs.Terms.{Awake}
use Rattle.est_kernel.specs.Laws.{IsSubset}
use Rattle.est_kernel.specs.Preorder.{preorder}
use Rattle.est_kernel.specs.StaticCodes.{started_codes, resumed_codes}
use Rattle.grc_graph.specs.Layers.{Layer, Resumed, Started, layer_above}
use Rattle.grc_graph.specs.Instances.{Instance, body_instances, Ascends, enclosing}
use Rattle.grc_graph.specs.Residuals.{holds, residual}
use Rattle.grc_graph.specs.Selected.{HasExitCodes}
use Rattle.grc_graph.specs.SelectionTrees.{body_leaves}
use Rattle.grc_graph.specs.Selections.{IsSelection}

-- each live instance stands once, and they are in order
abbrev pub InstancesAscend : Type 0
InstancesAscend = (body : Term) → Ascends (body_instances body)

-- the instance of each statement around a live instance, as seen from it, is live
abbrev pub EnclosingAreLive : Type 0
EnclosingAreLive =
    (body : Term) (m : ℕ) (l : Layer)
    → Contains (body_instances body) (record { path = m; layer = l })
    → All (λ b. Contains (body_instances body) (record { path = b; layer = layer_above b l })) (enclosing body 0 m)

-- what is left of a body in a state can complete only with codes that the body has when it is resumed
abbrev pub ResidualHasResumedCodes : Type 0
ResidualHasResumedCodes =
    (body : Term) (S : ℕ → Bool)
    → IsSelection S body
    → holds S body 0 ≡ true
    → IsSubset (started_codes (residual S body 0)) (resumed_codes body)

-- whether a live instance is that of a pause that is resumed
abbrev pub is_resumed : Layer → Bool
is_resumed Resumed = true
is_resumed (Started r) = false

abbrev pub is_pause : Term → Bool
is_pause Nothing = false
is_pause Pause = true
is_pause (Emit s) = false
is_pause (Exit k) = false
is_pause (Present e p q) = false
is_pause (Suspend e p) = false
is_pause (Seq p q) = false
is_pause (Loop at p) = false
is_pause (Par p q) = false
is_pause (Trap p) = false
is_pause (Local s p) = false
is_pause (Awake e p) = false

abbrev pub is_resumed_pause : Term → Instance → Bool
is_resumed_pause body x = is_resumed x.layer && is_pause (slice_index_or (preorder body) x.path Nothing)

-- the leaves of the selection tree are the pauses whose resumed instance is live, in order
abbrev pub LeavesAreResumedPauses : Type 0
LeavesAreResumedPauses =
    (body : Term) → HasExitCodes body
    → body_leaves body ≡ map (λ x. x.path) (filter (is_resumed_pause body) (body_instances body))
