-- To believe: the live instances of a body, in the order of the graph: statements in preorder, and at one statement
-- resumed first, then started by ascending roots.
use Rattle.std.specs.Prelude.{◌≡◌, ℕ, ◌+◌, ◌<◌, ◌==◌, ◌⊎◌, nat_lt, if◌then◌else◌, List, [], ◌∷◌, ◌++◌, map, All, ⊤}
use Rattle.est_kernel.specs.Terms.{Term, Nothing, Pause, Emit, Exit, Present, Suspend, Seq, Loop, Par, Trap, Local}
use Rattle.est_kernel.specs.Terms.{Awake}
use Rattle.est_kernel.specs.Preorder.{statement_count}
use Rattle.grc_graph.specs.Layers.{Layer, Resumed, Started, Liveness, layers_of, body_liveness, part_liveness}
use Rattle.grc_graph.specs.Layers.{second_liveness, loop_liveness}

-- a statement, by its number, in a layer
pub record Instance : Type 0 where
  pub path : ℕ
  pub layer : Layer

-- the instances of a statement at n that is live in these layers
abbrev pub instances_at : Liveness → ℕ → List Instance
instances_at a n = map (λ l. record { path = n; layer = l }) (layers_of a)

-- the live instances of a statement at n, and of all statements in it
abbrev pub instances : Liveness → Term → ℕ → List Instance
instances a Nothing n = instances_at a n
instances a Pause n = instances_at a n
instances a (Emit s) n = instances_at a n
instances a (Exit k) n = instances_at a n
instances a (Present e p q) n =
    instances_at a n
    ++ (instances (part_liveness a p) p (n + 1)
    ++ instances (part_liveness a q) q (n + 1 + statement_count p))
instances a (Suspend e p) n = instances_at a n ++ instances (part_liveness a p) p (n + 1)
instances a (Seq p q) n =
    instances_at a n
    ++ (instances (part_liveness a p) p (n + 1)
    ++ instances (second_liveness a p q (n + 1 + statement_count p)) q (n + 1 + statement_count p))
instances a (Loop at p) n = instances_at a n ++ instances (loop_liveness a p (n + 1)) p (n + 1)
instances a (Par p q) n =
    instances_at a n
    ++ (instances (part_liveness a p) p (n + 1)
    ++ instances (part_liveness a q) q (n + 1 + statement_count p))
instances a (Trap p) n = instances_at a n ++ instances (part_liveness a p) p (n + 1)
instances a (Local s p) n = instances_at a n ++ instances (part_liveness a p) p (n + 1)
instances a (Awake e p) n = instances_at a n ++ instances (part_liveness a p) p (n + 1)

-- the live instances of a body
abbrev pub body_instances : Term → List Instance
body_instances body = instances (body_liveness body) body 0

-- an instance comes before another in the order of the graph
abbrev pub LayerBefore : Layer → Layer → Type 0
LayerBefore Resumed Resumed = ⊥
LayerBefore Resumed (Started r) = ⊤
LayerBefore (Started q) Resumed = ⊥
LayerBefore (Started q) (Started r) = q < r

abbrev pub Before : Instance → Instance → Type 0
Before x y = (x.path < y.path) ⊎ ((x.path ≡ y.path) × LayerBefore x.layer y.layer)

-- each instance of a list comes before all that come after it: so each stands once, and in order
abbrev pub Ascends : List Instance → Type 0
Ascends [] = ⊤
Ascends (x ∷ xs) = All (Before x) xs × Ascends xs

-- the statements around the one with the number m, in a statement at n, itself included, the outermost first
abbrev pub enclosing : Term → (n m : ℕ) → List ℕ
enclosing Nothing n m = n ∷ []
enclosing Pause n m = n ∷ []
enclosing (Emit s) n m = n ∷ []
enclosing (Exit k) n m = n ∷ []
enclosing (Present e p q) n m =
    n ∷ (if m == n then [] else if nat_lt m (n + 1 + statement_count p) then enclosing p (n + 1) m
    else enclosing q (n + 1 + statement_count p) m)
enclosing (Suspend e p) n m = n ∷ (if m == n then [] else enclosing p (n + 1) m)
enclosing (Seq p q) n m =
    n ∷ (if m == n then [] else if nat_lt m (n + 1 + statement_count p) then enclosing p (n + 1) m
    else enclosing q (n + 1 + statement_count p) m)
enclosing (Loop at p) n m = n ∷ (if m == n then [] else enclosing p (n + 1) m)
enclosing (Par p q) n m =
    n ∷ (if m == n then [] else if nat_lt m (n + 1 + statement_count p) then enclosing p (n + 1) m
    else enclosing q (n + 1 + statement_count p) m)
enclosing (Trap p) n m = n ∷ (if m == n then [] else enclosing p (n + 1) m)
enclosing (Local s p) n m = n ∷ (if m == n then [] else enclosing p (n + 1) m)
enclosing (Awake e p) n m = n ∷ (if m == n then [] else enclosing p (n + 1) m)
