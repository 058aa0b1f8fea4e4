-- Inner: the places of the statements of a body, from the body down.
use Rattle.std.specs.Prelude.{ℕ, ◌+◌, List, [], ◌∷◌, ◌++◌, Option}
use Rattle.est_kernel.specs.Terms.{Term, Nothing, Pause, Emit, Exit, Present, Suspend, Seq, Loop, Par, Trap, Local}
use Rattle.est_kernel.specs.Terms.{Awake}
use Rattle.est_kernel.specs.Preorder.{statement_count}
use Rattle.grc_graph.specs.WireNames.{bound_signal}

-- a statement: the number of the statement around it, its child number there, and the signal that it binds
pub record Place : Type 0 where
  pub parent : ℕ
  pub child : ℕ
  pub bound : Option ℕ

abbrev pub place : (parent child : ℕ) → Term → Place
place a c t = record { parent = a; child = c; bound = bound_signal t }

-- the places of a statement at n and of all statements in it, in preorder
abbrev pub places : (parent child : ℕ) → Term → ℕ → List Place
places a c Nothing n = place a c Nothing ∷ []
places a c Pause n = place a c Pause ∷ []
places a c (Emit s) n = place a c (Emit s) ∷ []
places a c (Exit k) n = place a c (Exit k) ∷ []
places a c (Present e p q) n =
    place a c (Present e p q) ∷ (places n 0 p (n + 1) ++ places n 1 q (n + (1 + statement_count p)))
places a c (Suspend e p) n = place a c (Suspend e p) ∷ places n 0 p (n + 1)
places a c (Seq p q) n = place a c (Seq p q) ∷ (places n 0 p (n + 1) ++ places n 1 q (n + (1 + statement_count p)))
places a c (Loop at p) n = place a c (Loop at p) ∷ places n 0 p (n + 1)
places a c (Par p q) n = place a c (Par p q) ∷ (places n 0 p (n + 1) ++ places n 1 q (n + (1 + statement_count p)))
places a c (Trap p) n = place a c (Trap p) ∷ places n 0 p (n + 1)
places a c (Local s p) n = place a c (Local s p) ∷ places n 0 p (n + 1)
places a c (Awake e p) n = place a c (Awake e p) ∷ places n 0 p (n + 1)

-- the places of a body
abbrev pub body_places : Term → List Place
body_places body = places 0 0 body 0
