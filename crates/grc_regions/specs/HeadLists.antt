-- Inner: the resumed heads of all statements of a body, in preorder.
use Rattle.std.specs.Prelude.{ℕ, ◌+◌, List, [], ◌∷◌, ◌++◌, map}
use Rattle.est_kernel.specs.Preorder.{statement_count}
use Rattle.est_kernel.specs.Terms.{Term, Nothing, Pause, Emit, Exit, Present, Suspend, Seq, Loop, Par, Trap, Local}
use Rattle.est_kernel.specs.Terms.{Awake}
use Rattle.grc_graph.specs.Layers.{Layer, Resumed, Started}

-- those of a statement at n with the head h, and of all in it
abbrev pub heads_of : ℕ → Term → ℕ → List ℕ
heads_of h Nothing n = h ∷ []
heads_of h Pause n = h ∷ []
heads_of h (Emit s) n = h ∷ []
heads_of h (Exit k) n = h ∷ []
heads_of h (Present e p q) n = h ∷ (heads_of h p (n + 1) ++ heads_of h q (n + 1 + statement_count p))
heads_of h (Suspend e p) n = h ∷ heads_of h p (n + 1)
heads_of h (Seq p q) n = h ∷ (heads_of h p (n + 1) ++ heads_of h q (n + 1 + statement_count p))
heads_of h (Loop at p) n = h ∷ heads_of h p (n + 1)
heads_of h (Par p q) n =
    h ∷ (heads_of (n + 1) p (n + 1) ++ heads_of (n + 1 + statement_count p) q (n + 1 + statement_count p))
heads_of h (Trap p) n = h ∷ heads_of h p (n + 1)
heads_of h (Local s p) n = h ∷ heads_of h p (n + 1)
-- no body of a program has this form
heads_of h (Awake e p) n = h ∷ map (λ m. h) (heads_of h p (n + 1))

-- the number of the head of an instance in a layer, whose resumed head has this number
abbrev pub head_number : ℕ → Layer → ℕ
head_number h Resumed = h
head_number h (Started r) = r
