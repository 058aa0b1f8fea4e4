-- To believe: what is left of a body in a state. A state after the first instant is a set of selected pauses, by
-- their numbers in preorder: control rests at them.
use Rattle.std.specs.Prelude.{ℕ, ◌+◌, Bool, false, ◌||◌, if◌then◌else◌}
use Rattle.est_kernel.specs.Terms.{Term, Nothing, Pause, Emit, Exit, Present, Suspend, Seq, Loop, Par, Trap, Local}
use Rattle.est_kernel.specs.Terms.{Awake}
use Rattle.est_kernel.specs.Preorder.{statement_count}

-- whether a statement at n holds a selected pause
abbrev pub holds : (ℕ → Bool) → Term → ℕ → Bool
holds S Nothing n = false
holds S Pause n = S n
holds S (Emit s) n = false
holds S (Exit k) n = false
holds S (Present e p q) n = holds S p (n + 1) || holds S q (n + 1 + statement_count p)
holds S (Suspend e p) n = holds S p (n + 1)
holds S (Seq p q) n = holds S p (n + 1) || holds S q (n + 1 + statement_count p)
holds S (Loop at p) n = holds S p (n + 1)
holds S (Par p q) n = holds S p (n + 1) || holds S q (n + 1 + statement_count p)
holds S (Trap p) n = holds S p (n + 1)
holds S (Local s p) n = holds S p (n + 1)
-- no body of a program has this form
holds S (Awake e p) n = false

-- what is left of a part: nothing, where it holds no selected pause
abbrev pub left_if : Bool → Term → Term
left_if b r = if b then r else Nothing

-- What is left of a statement at n that holds a selected pause. A pause that was reached is over. Of a branch of a
-- parallel that holds none, nothing is left.
abbrev pub residual : (ℕ → Bool) → Term → ℕ → Term
residual S Nothing n = Nothing
residual S Pause n = Nothing
residual S (Emit s) n = Nothing
residual S (Exit k) n = Nothing
residual S (Present e p q) n =
    if holds S p (n + 1) then residual S p (n + 1) else residual S q (n + 1 + statement_count p)
residual S (Suspend e p) n = Awake e (residual S p (n + 1))
residual S (Seq p q) n =
    if holds S p (n + 1) then Seq (residual S p (n + 1)) q else residual S q (n + 1 + statement_count p)
residual S (Loop at p) n = Seq (residual S p (n + 1)) (Loop at p)
residual S (Par p q) n =
    Par (left_if (holds S p (n + 1)) (residual S p (n + 1)))
    (left_if (holds S q (n + 1 + statement_count p)) (residual S q (n + 1 + statement_count p)))
residual S (Trap p) n = Trap (residual S p (n + 1))
residual S (Local s p) n = Local s (residual S p (n + 1))
-- no body of a program has this form
residual S (Awake e p) n = Nothing

-- what is left of a body in a state: nothing, where no pause is selected
abbrev pub resumption : (ℕ → Bool) → Term → Term
resumption S body = left_if (holds S body 0) (residual S body 0)
