-- Contract: which bodies are kernels of programs, and which selections are well formed.
use Rattle.std.specs.Prelude.{◌≡◌, ℕ, ◌+◌, ◌≤◌, ◌<◌, Bool, true, false, ◌&&◌, ◌||◌, ⊤}
use Rattle.est_kernel.specs.Terms.{Term, Nothing, Pause, Emit, Exit, Present, Suspend, Seq, Loop, Par, Trap, Local}
use Rattle.est_kernel.specs.Terms.{Awake}
use Rattle.est_kernel.specs.Preorder.{statement_count}
use Rattle.grc_graph.specs.Layers.{can_pass}
use Rattle.grc_graph.specs.Residuals.{holds}
use Rattle.grc_graph.specs.Walk.{State, Initial, Selecting}

-- a kernel statement of a program: exits have codes from 2 to 63, and no suspension is under way
abbrev pub HasExitCodes : Term → Type 0
HasExitCodes Nothing = ⊤
HasExitCodes Pause = ⊤
HasExitCodes (Emit s) = ⊤
HasExitCodes (Exit k) = (2 ≤ k) × (k < 64)
HasExitCodes (Present e p q) = HasExitCodes p × HasExitCodes q
HasExitCodes (Suspend e p) = HasExitCodes p
HasExitCodes (Seq p q) = HasExitCodes p × HasExitCodes q
HasExitCodes (Loop at p) = HasExitCodes p
HasExitCodes (Par p q) = HasExitCodes p × HasExitCodes q
HasExitCodes (Trap p) = HasExitCodes p
HasExitCodes (Local s p) = HasExitCodes p
HasExitCodes (Awake e p) = ⊥

-- The selected pauses of a statement at n that holds one: of a test and of a sequence one part alone holds them; the
-- second part of a sequence only where the first can terminate; of a parallel each branch holds one or can have
-- terminated before.
abbrev pub IsSelected : (ℕ → Bool) → Term → ℕ → Type 0
IsSelected S Nothing n = ⊤
IsSelected S Pause n = ⊤
IsSelected S (Emit s) n = ⊤
IsSelected S (Exit k) n = ⊤
IsSelected S (Present e p q) n =
    ((holds S p (n + 1) && holds S q (n + 1 + statement_count p)) ≡ false)
    × (holds S p (n + 1) ≡ true → IsSelected S p (n + 1))
    × (holds S q (n + 1 + statement_count p) ≡ true → IsSelected S q (n + 1 + statement_count p))
IsSelected S (Suspend e p) n = IsSelected S p (n + 1)
IsSelected S (Seq p q) n =
    ((holds S p (n + 1) && holds S q (n + 1 + statement_count p)) ≡ false)
    × (holds S p (n + 1) ≡ true → IsSelected S p (n + 1))
    × (holds S q (n + 1 + statement_count p) ≡ true
    → (can_pass p ≡ true) × IsSelected S q (n + 1 + statement_count p))
IsSelected S (Loop at p) n = IsSelected S p (n + 1)
IsSelected S (Par p q) n =
    ((holds S p (n + 1) || can_pass p) ≡ true)
    × ((holds S q (n + 1 + statement_count p) || can_pass q) ≡ true)
    × (holds S p (n + 1) ≡ true → IsSelected S p (n + 1))
    × (holds S q (n + 1 + statement_count p) ≡ true → IsSelected S q (n + 1 + statement_count p))
IsSelected S (Trap p) n = IsSelected S p (n + 1)
IsSelected S (Local s p) n = IsSelected S p (n + 1)
-- no body of a program has this form
IsSelected S (Awake e p) n = ⊤

-- a state of a body: the first instant, or a well-formed selection, which may be empty
abbrev pub IsState : State → Term → Type 0
IsState Initial body = ⊤
IsState (Selecting S) body = holds S body 0 ≡ true → IsSelected S body 0
