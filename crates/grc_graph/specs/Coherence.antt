-- To believe: when the wires of a graph are those of the walk of its program: logical coherence, in the sense of Berry,
-- "The Constructive Semantics of Pure Esterel".
--
-- `go` of an instance is true where the walk reaches it, `end k` where it reaches it with code k, and the status wire
-- of a Local where the walk of its body, in the same instance, emits the signal: so each status is coherent with what
-- is emitted. The walk goes under the statuses that the status wires themselves have.
use Rattle.std.specs.Prelude.{◌≡◌, ℕ, ◌+◌, Bool, true, not, ◌==◌, ◌&&◌}
use Rattle.est_kernel.specs.Terms.{Term, Nothing, Pause, Emit, Exit, Present, Suspend, Seq, Loop, Par, Trap, Local}
use Rattle.est_kernel.specs.Terms.{Awake}
use Rattle.est_kernel.specs.Preorder.{statement_count}
use Rattle.est_kernel.specs.StaticCodes.{has_code, started_codes, resumed_codes}
use Rattle.grc_graph.specs.Layers.{Layer, Resumed, Started, can_pass}
use Rattle.grc_graph.specs.Wires.{Go, StatusOf, End}
use Rattle.grc_graph.specs.Residuals.{holds}
use Rattle.grc_graph.specs.Walk.{Walk, Values, with_value, truth, started_walk, resumed_walk}
use Rattle.grc_graph.specs.Readings.{Valuation}

-- the statuses that a valuation gives to the instances of Locals
abbrev pub statuses : Valuation → ℕ → Layer → Bool
statuses V = λ n l. V (StatusOf n l)

-- the wires of one instance, reached where b holds, with this walk
pub record InstanceWalked (V : Valuation) (n : ℕ) (l : Layer) (b : Bool) (w : Walk) : Type 0 where
  pub go : V (Go n l) ≡ b
  pub ends : (k : ℕ) → V (End n l k) ≡ (b && k == w.code)

-- The wires of a statement at n that is started in a layer where b holds, and of all parts of it in that layer. A
-- second part that can never be started has no instance.
abbrev pub StartedWalked : Valuation → Term → ℕ → Layer → Values → Bool → Type 0
StartedWalked V Nothing n l v b = InstanceWalked V n l b (started_walk (statuses V) Nothing n l v)
StartedWalked V Pause n l v b = InstanceWalked V n l b (started_walk (statuses V) Pause n l v)
StartedWalked V (Emit s) n l v b = InstanceWalked V n l b (started_walk (statuses V) (Emit s) n l v)
StartedWalked V (Exit k) n l v b = InstanceWalked V n l b (started_walk (statuses V) (Exit k) n l v)
StartedWalked V (Present e p q) n l v b =
    InstanceWalked V n l b (started_walk (statuses V) (Present e p q) n l v)
    × StartedWalked V p (n + 1) l v (b && truth e v)
    × StartedWalked V q (n + 1 + statement_count p) l v (b && not (truth e v))
StartedWalked V (Suspend e p) n l v b =
    InstanceWalked V n l b (started_walk (statuses V) (Suspend e p) n l v) × StartedWalked V p (n + 1) l v b
StartedWalked V (Seq p q) n l v b =
    InstanceWalked V n l b (started_walk (statuses V) (Seq p q) n l v)
    × StartedWalked V p (n + 1) l v b
    × (started_codes p 0 ≡ true
    → StartedWalked V q (n + 1 + statement_count p) l v (b && (started_walk (statuses V) p (n + 1) l v).code == 0))
StartedWalked V (Loop at p) n l v b =
    InstanceWalked V n l b (started_walk (statuses V) (Loop at p) n l v) × StartedWalked V p (n + 1) l v b
StartedWalked V (Par p q) n l v b =
    InstanceWalked V n l b (started_walk (statuses V) (Par p q) n l v)
    × StartedWalked V p (n + 1) l v b
    × StartedWalked V q (n + 1 + statement_count p) l v b
StartedWalked V (Trap p) n l v b =
    InstanceWalked V n l b (started_walk (statuses V) (Trap p) n l v) × StartedWalked V p (n + 1) l v b
StartedWalked V (Local s p) n l v b =
    InstanceWalked V n l b (started_walk (statuses V) (Local s p) n l v)
    × (V (StatusOf n l) ≡ (b && (started_walk (statuses V) p (n + 1) l (with_value v s (V (StatusOf n l)))).signals s))
    × StartedWalked V p (n + 1) l (with_value v s (V (StatusOf n l))) b
StartedWalked V (Awake e p) n l v b = InstanceWalked V n l b (started_walk (statuses V) (Awake e p) n l v)

-- The wires of a statement at n that is resumed where b holds, with the pauses S selected, and of all parts of it,
-- resumed or started at their own roots. A part without resumed codes has no resumed instance.
abbrev pub ResumedWalked : Valuation → (ℕ → Bool) → Term → ℕ → Values → Bool → Type 0
ResumedWalked V S Nothing n v b = InstanceWalked V n Resumed b (resumed_walk (statuses V) S Nothing n v)
ResumedWalked V S Pause n v b = InstanceWalked V n Resumed b (resumed_walk (statuses V) S Pause n v)
ResumedWalked V S (Emit s) n v b = InstanceWalked V n Resumed b (resumed_walk (statuses V) S (Emit s) n v)
ResumedWalked V S (Exit k) n v b = InstanceWalked V n Resumed b (resumed_walk (statuses V) S (Exit k) n v)
ResumedWalked V S (Present e p q) n v b =
    InstanceWalked V n Resumed b (resumed_walk (statuses V) S (Present e p q) n v)
    × (has_code (resumed_codes p) ≡ true → ResumedWalked V S p (n + 1) v (b && holds S p (n + 1)))
    × (has_code (resumed_codes q) ≡ true
    → ResumedWalked V S q (n + 1 + statement_count p) v (b && holds S q (n + 1 + statement_count p)))
ResumedWalked V S (Suspend e p) n v b =
    InstanceWalked V n Resumed b (resumed_walk (statuses V) S (Suspend e p) n v)
    × (has_code (resumed_codes p) ≡ true → ResumedWalked V S p (n + 1) v (b && not (truth e v)))
ResumedWalked V S (Seq p q) n v b =
    InstanceWalked V n Resumed b (resumed_walk (statuses V) S (Seq p q) n v)
    × (has_code (resumed_codes p) ≡ true → ResumedWalked V S p (n + 1) v (b && holds S p (n + 1)))
    × ((can_pass p && has_code (resumed_codes q)) ≡ true
    → ResumedWalked V S q (n + 1 + statement_count p) v (b && holds S q (n + 1 + statement_count p)))
    × (resumed_codes p 0 ≡ true
    → StartedWalked V q (n + 1 + statement_count p) (Started (n + 1 + statement_count p)) v
    ((b && holds S p (n + 1)) && (resumed_walk (statuses V) S p (n + 1) v).code == 0))
ResumedWalked V S (Loop at p) n v b =
    InstanceWalked V n Resumed b (resumed_walk (statuses V) S (Loop at p) n v)
    × (has_code (resumed_codes p) ≡ true → ResumedWalked V S p (n + 1) v b)
    × (resumed_codes p 0 ≡ true
    → StartedWalked V p (n + 1) (Started (n + 1)) v (b && (resumed_walk (statuses V) S p (n + 1) v).code == 0))
ResumedWalked V S (Par p q) n v b =
    InstanceWalked V n Resumed b (resumed_walk (statuses V) S (Par p q) n v)
    × (has_code (resumed_codes p) ≡ true → ResumedWalked V S p (n + 1) v (b && holds S p (n + 1)))
    × (has_code (resumed_codes q) ≡ true
    → ResumedWalked V S q (n + 1 + statement_count p) v (b && holds S q (n + 1 + statement_count p)))
ResumedWalked V S (Trap p) n v b =
    InstanceWalked V n Resumed b (resumed_walk (statuses V) S (Trap p) n v)
    × (has_code (resumed_codes p) ≡ true → ResumedWalked V S p (n + 1) v b)
ResumedWalked V S (Local s p) n v b =
    InstanceWalked V n Resumed b (resumed_walk (statuses V) S (Local s p) n v)
    × (V (StatusOf n Resumed)
    ≡ (b && (resumed_walk (statuses V) S p (n + 1) (with_value v s (V (StatusOf n Resumed)))).signals s))
    × (has_code (resumed_codes p) ≡ true → ResumedWalked V S p (n + 1) (with_value v s (V (StatusOf n Resumed))) b)
ResumedWalked V S (Awake e p) n v b = InstanceWalked V n Resumed b (resumed_walk (statuses V) S (Awake e p) n v)
