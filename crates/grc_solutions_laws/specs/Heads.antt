-- To believe: the heads of a graph, and the region of each: what may be skipped where the head does not run.
--
-- A head is a live instance of one of three kinds: the body, resumed; a part of a parallel, resumed; and the place
-- where a start begins, in the layer of that start. The head of a started instance is the place where its start began;
-- that of a resumed one is the nearest resumed head at it or above it.
use Rattle.std.specs.Prelude.{◌≡◌, ℕ, ◌+◌, false, ◌==◌, nat_lt, if◌then◌else◌, Option, Some, None}
use Rattle.est_kernel.specs.Terms.{Term, Nothing, Pause, Emit, Exit, Present, Suspend, Seq, Loop, Par, Trap, Local}
use Rattle.est_kernel.specs.Terms.{Awake}
use Rattle.est_kernel.specs.Preorder.{statement_count}
use Rattle.grc_graph.specs.Layers.{Layer, Resumed, Started}
use Rattle.grc_graph.specs.Wires.{Wire, Out, Go, StatusOf, End, same_wire}
use Rattle.grc_graph.specs.Readings.{Valuation}

-- in a statement at n whose resumed head is h: the resumed head of the statement with the number m
abbrev pub head_in : ℕ → Term → ℕ → ℕ → ℕ
head_in h Nothing n m = h
head_in h Pause n m = h
head_in h (Emit s) n m = h
head_in h (Exit k) n m = h
head_in h (Present e p q) n m =
    if m == n then h
    else if nat_lt m (n + 1 + statement_count p) then head_in h p (n + 1) m
    else head_in h q (n + 1 + statement_count p) m
head_in h (Suspend e p) n m = if m == n then h else head_in h p (n + 1) m
head_in h (Seq p q) n m =
    if m == n then h
    else if nat_lt m (n + 1 + statement_count p) then head_in h p (n + 1) m
    else head_in h q (n + 1 + statement_count p) m
head_in h (Loop at p) n m = if m == n then h else head_in h p (n + 1) m
head_in h (Par p q) n m =
    if m == n then h
    else if nat_lt m (n + 1 + statement_count p) then head_in (n + 1) p (n + 1) m
    else head_in (n + 1 + statement_count p) q (n + 1 + statement_count p) m
head_in h (Trap p) n m = if m == n then h else head_in h p (n + 1) m
head_in h (Local s p) n m = if m == n then h else head_in h p (n + 1) m
-- no body of a program has this form
head_in h (Awake e p) n m = h

-- the wire that says whether the head of an instance runs
abbrev pub head_go : Term → ℕ → Layer → Wire
head_go body n Resumed = Go (head_in 0 body 0 n) Resumed
head_go body n (Started r) = Go r (Started r)

-- The region in which a wire lies, as the wire that says whether its head runs: the ends of an instance and whether it
-- runs lie in the region of its head. Whether a head runs, statuses and outgoing signals lie in none.
abbrev pub region_of : Term → Wire → Option Wire
region_of body (Out s) = None
region_of body (Go n l) = if same_wire (Go n l) (head_go body n l) then None else Some (head_go body n l)
region_of body (StatusOf n l) = None
region_of body (End n l k) = Some (head_go body n l)

-- A region is at rest where its head does not run: each of its wires is false.
abbrev pub RegionRests : Term → Valuation → Wire → Type 0
RegionRests body V w = (head : Wire) → region_of body w ≡ Some head → V head ≡ false → V w ≡ false
