-- Contract: which sets of selected pauses are states of a body.
use Rattle.std.specs.Prelude.{◌≡◌, ℕ, ◌+◌, Bool, true, not, ◌&&◌, ◌||◌, Contains}
use Rattle.est_kernel.specs.Terms.{Term, Nothing, Pause, Emit, Exit, Present, Suspend, Seq, Loop, Par, Trap, Local}
use Rattle.est_kernel.specs.Terms.{Awake}
use Rattle.est_kernel.specs.Preorder.{statement_count}
use Rattle.grc_graph.specs.Layers.{can_pass}
use Rattle.grc_graph.specs.Residuals.{holds}
use Rattle.grc_graph.specs.SelectionTrees.{body_leaves}

-- at most one of two parts holds a selected pause
abbrev pub at_most_one : Bool → Bool → Bool
at_most_one a b = not (a && b)

-- of two branches of a parallel that holds a selected pause, each holds one or can be over while the other goes on
abbrev pub each_or_over : (first over_first second over_second : Bool) → Bool
each_or_over a over_a b over_b = not (a || b) || ((a || over_a) && (b || over_b))

-- Whether the selected pauses of a statement at n are as its form wants: at most one part of a sequence or of a test
-- holds one; of a parallel that holds one, each branch holds one or can be over.
abbrev pub well_formed : (ℕ → Bool) → Term → ℕ → Bool
well_formed S Nothing n = true
well_formed S Pause n = true
well_formed S (Emit s) n = true
well_formed S (Exit k) n = true
well_formed S (Present e p q) n =
    at_most_one (holds S p (n + 1)) (holds S q (n + 1 + statement_count p))
    && (well_formed S p (n + 1) && well_formed S q (n + 1 + statement_count p))
well_formed S (Suspend e p) n = well_formed S p (n + 1)
well_formed S (Seq p q) n =
    at_most_one (holds S p (n + 1)) (holds S q (n + 1 + statement_count p))
    && (well_formed S p (n + 1) && well_formed S q (n + 1 + statement_count p))
well_formed S (Loop at p) n = well_formed S p (n + 1)
well_formed S (Par p q) n =
    each_or_over (holds S p (n + 1)) (can_pass p) (holds S q (n + 1 + statement_count p)) (can_pass q)
    && (well_formed S p (n + 1) && well_formed S q (n + 1 + statement_count p))
well_formed S (Trap p) n = well_formed S p (n + 1)
well_formed S (Local s p) n = well_formed S p (n + 1)
well_formed S (Awake e p) n = true

-- a set of selected pauses is a state of a body: they are leaves of its selection tree, and are well formed
pub record IsSelection (S : ℕ → Bool) (body : Term) : Type 0 where
  pub leaves : (m : ℕ) → S m ≡ true → Contains (body_leaves body) m
  pub formed : well_formed S body 0 ≡ true
