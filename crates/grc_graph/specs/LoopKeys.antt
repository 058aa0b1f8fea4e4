-- To believe: how many loop bodies stand around a statement, what of that tells its layers apart, and what a shared
-- instance sees of the ends of parallels around it.
use Rattle.std.specs.Prelude.{ℕ, ◌+◌, ◌==◌, ◌&&◌, ◌||◌, nat_lt, if◌then◌else◌}
use Rattle.est_kernel.specs.Terms.{Term, Nothing, Pause, Emit, Exit, Present, Suspend, Seq, Loop, Par, Trap, Local}
use Rattle.est_kernel.specs.Terms.{Awake}
use Rattle.est_kernel.specs.Preorder.{statement_count}
use Rattle.grc_graph.specs.Layers.{Layer, Resumed, Started, Liveness, body_liveness, liveness_at}
use Rattle.grc_graph.specs.Readings.{Valuation}
use Rattle.grc_graph.specs.Wires.{Out, Go, StatusOf, End}

-- how many loop bodies there are at or above the statement with the number m, in a statement at n at or above which
-- there are k
abbrev pub loops_at : ℕ → Term → (n m : ℕ) → ℕ
loops_at k Nothing n m = k
loops_at k Pause n m = k
loops_at k (Emit s) n m = k
loops_at k (Exit c) n m = k
loops_at k (Present e p q) n m =
    if m == n then k
    else if nat_lt m (n + 1 + statement_count p) then loops_at k p (n + 1) m
    else loops_at k q (n + 1 + statement_count p) m
loops_at k (Suspend e p) n m = if m == n then k else loops_at k p (n + 1) m
loops_at k (Seq p q) n m =
    if m == n then k
    else if nat_lt m (n + 1 + statement_count p) then loops_at k p (n + 1) m
    else loops_at k q (n + 1 + statement_count p) m
loops_at k (Loop at p) n m = if m == n then k else loops_at (k + 1) p (n + 1) m
loops_at k (Par p q) n m =
    if m == n then k
    else if nat_lt m (n + 1 + statement_count p) then loops_at k p (n + 1) m
    else loops_at k q (n + 1 + statement_count p) m
loops_at k (Trap p) n m = if m == n then k else loops_at k p (n + 1) m
loops_at k (Local s p) n m = if m == n then k else loops_at k p (n + 1) m
loops_at k (Awake e p) n m = k

-- how many loop bodies stand strictly above the statement with the number m, in a statement at n strictly above which
-- there are j, and at or above which there are k
abbrev pub loops_above : (j k : ℕ) → Term → (n m : ℕ) → ℕ
loops_above j k Nothing n m = j
loops_above j k Pause n m = j
loops_above j k (Emit s) n m = j
loops_above j k (Exit c) n m = j
loops_above j k (Present e p q) n m =
    if m == n then j
    else if nat_lt m (n + 1 + statement_count p) then loops_above k k p (n + 1) m
    else loops_above k k q (n + 1 + statement_count p) m
loops_above j k (Suspend e p) n m = if m == n then j else loops_above k k p (n + 1) m
loops_above j k (Seq p q) n m =
    if m == n then j
    else if nat_lt m (n + 1 + statement_count p) then loops_above k k p (n + 1) m
    else loops_above k k q (n + 1 + statement_count p) m
loops_above j k (Loop at p) n m = if m == n then j else loops_above k (k + 1) p (n + 1) m
loops_above j k (Par p q) n m =
    if m == n then j
    else if nat_lt m (n + 1 + statement_count p) then loops_above k k p (n + 1) m
    else loops_above k k q (n + 1 + statement_count p) m
loops_above j k (Trap p) n m = if m == n then j else loops_above k k p (n + 1) m
loops_above j k (Local s p) n m = if m == n then j else loops_above k k p (n + 1) m
loops_above j k (Awake e p) n m = j

-- of each statement of a body the layers in which it is live, how many loop bodies stand above it, as a root, and how
-- many at or above it, as what is resumed
pub record Sharing : Type 0 where
  pub live : ℕ → Liveness
  pub root : ℕ → ℕ
  pub resumed : ℕ → ℕ

abbrev pub body_sharing : Term → Sharing
body_sharing body = record {
  live = liveness_at (body_liveness body) body 0;
  root = loops_above 0 0 body 0;
  resumed = loops_at 0 body 0;
}

-- what tells the layers of a statement apart: starts by what stands above their roots; what is resumed was entered in
-- an earlier instant, inside of all loop bodies around the statement
abbrev pub key : Sharing → ℕ → Layer → ℕ
key K n Resumed = K.resumed n
key K n (Started r) = K.root r

-- What a shared instance sees of the end of a parallel around it. Its members see the parallel started or resumed, and
-- the resumed one counts as the started one of the same key.
abbrev pub lasting : Sharing → Valuation → Valuation
lasting K V (Out s) = V (Out s)
lasting K V (Go n l) = V (Go n l)
lasting K V (StatusOf n l) = V (StatusOf n l)
lasting K V (End n l k) = V (End n l k) || (K.resumed n == key K n l && V (End n Resumed k))
