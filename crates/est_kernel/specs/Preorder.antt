-- To believe: statements by their numbers in preorder: a statement comes before its parts, and a part before the
-- part after it. The body has number 0; under a statement with number n the first part has n + 1, and
-- the second n + 1 plus the number of statements in the first.
use Rattle.std.specs.Prelude.{ℕ, ◌+◌, List, [], ◌∷◌, ◌++◌}
use Rattle.est_kernel.specs.Terms.{Term, Nothing, Pause, Emit, Exit, Present, Suspend, Seq, Loop, Par, Trap, Local}
use Rattle.est_kernel.specs.Terms.{Awake}

-- the parts of a statement, in the order of its form; their places are the child numbers of a path
abbrev pub parts : Term → List Term
parts Nothing = []
parts Pause = []
parts (Emit s) = []
parts (Exit k) = []
parts (Present e p q) = p ∷ q ∷ []
parts (Suspend e p) = p ∷ []
parts (Seq p q) = p ∷ q ∷ []
parts (Loop at p) = p ∷ []
parts (Par p q) = p ∷ q ∷ []
parts (Trap p) = p ∷ []
parts (Local s p) = p ∷ []
parts (Awake e p) = p ∷ []

-- the number of statements in a statement, itself included; tests do not count
abbrev pub statement_count : Term → ℕ
statement_count Nothing = 1
statement_count Pause = 1
statement_count (Emit s) = 1
statement_count (Exit k) = 1
statement_count (Present e p q) = 1 + statement_count p + statement_count q
statement_count (Suspend e p) = 1 + statement_count p
statement_count (Seq p q) = 1 + statement_count p + statement_count q
statement_count (Loop at p) = 1 + statement_count p
statement_count (Par p q) = 1 + statement_count p + statement_count q
statement_count (Trap p) = 1 + statement_count p
statement_count (Local s p) = 1 + statement_count p
statement_count (Awake e p) = 1 + statement_count p

-- the statements in preorder: the one with number n stands at place n
abbrev pub preorder : Term → List Term
preorder Nothing = Nothing ∷ []
preorder Pause = Pause ∷ []
preorder (Emit s) = Emit s ∷ []
preorder (Exit k) = Exit k ∷ []
preorder (Present e p q) = Present e p q ∷ (preorder p ++ preorder q)
preorder (Suspend e p) = Suspend e p ∷ preorder p
preorder (Seq p q) = Seq p q ∷ (preorder p ++ preorder q)
preorder (Loop at p) = Loop at p ∷ preorder p
preorder (Par p q) = Par p q ∷ (preorder p ++ preorder q)
preorder (Trap p) = Trap p ∷ preorder p
preorder (Local s p) = Local s p ∷ preorder p
preorder (Awake e p) = Awake e p ∷ preorder p
