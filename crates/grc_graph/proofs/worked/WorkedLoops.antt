-- Worked loop bodies, by hand: how many stand around each statement below each form, what tells layers apart, and what a shared instance sees of ends.
use Rattle.std.proofs.Common.{◌≡◌, ℕ, Bool, true, false, List, [], ◌∷◌, map, refl}
use Rattle.base_types.specs.declared.place.Span.{Span}
use Rattle.est_kernel.specs.Terms.{Tick, Term, Nothing, Pause, Emit, Exit, Present, Suspend, Seq, Loop, Par, Trap, Local, Awake}
use Rattle.grc_graph.specs.Layers.{Resumed, Started, layers_of}
use Rattle.grc_graph.specs.LoopKeys.{Sharing, loops_at, loops_above, body_sharing, key, lasting}
use Rattle.grc_graph.specs.Wires.{Wire, Out, Go, StatusOf, End, same_wire}

abbrev place : Span
place = record { start = 0; end = 1 }

-- a loop, in it a trap, in it a pause: three statements
abbrev turn : Term
turn = Loop place (Trap Pause)

abbrev ones : List Term
ones = Nothing ∷ Pause ∷ Emit 2 ∷ Exit 2 ∷ Awake Tick turn ∷ []

-- of one part, which has the numbers 4 to 6 in a statement at 3, and of two, of which the second has 7 to 9
abbrev around_one : List Term
around_one = Suspend Tick turn ∷ Trap turn ∷ Local 7 turn ∷ Loop place turn ∷ []

abbrev around_two : List Term
around_two = Present Tick turn turn ∷ Seq turn turn ∷ Par turn turn ∷ []

abbrev four : List ℕ
four = 3 ∷ 4 ∷ 5 ∷ 6 ∷ []

abbrev seven : List ℕ
seven = 3 ∷ 4 ∷ 5 ∷ 6 ∷ 7 ∷ 8 ∷ 9 ∷ []

-- ---- at or above a statement, where four are at or above the whole

at_leaves : map (λ p. loops_at 4 p 3 3) ones ≡ 4 ∷ 4 ∷ 4 ∷ 4 ∷ 4 ∷ []
at_leaves = refl

below_one : map (λ p. map (loops_at 4 p 3) four) around_one
    ≡ (4 ∷ 4 ∷ 5 ∷ 5 ∷ []) ∷ (4 ∷ 4 ∷ 5 ∷ 5 ∷ []) ∷ (4 ∷ 4 ∷ 5 ∷ 5 ∷ []) ∷ (4 ∷ 5 ∷ 6 ∷ 6 ∷ []) ∷ []
below_one = refl

below_two : map (λ p. map (loops_at 4 p 3) seven) around_two
    ≡ (4 ∷ 4 ∷ 5 ∷ 5 ∷ 4 ∷ 5 ∷ 5 ∷ []) ∷ (4 ∷ 4 ∷ 5 ∷ 5 ∷ 4 ∷ 5 ∷ 5 ∷ []) ∷ (4 ∷ 4 ∷ 5 ∷ 5 ∷ 4 ∷ 5 ∷ 5 ∷ []) ∷ []
below_two = refl

-- ---- strictly above a statement, where two are strictly above the whole

above_leaves : map (λ p. loops_above 2 4 p 3 3) ones ≡ 2 ∷ 2 ∷ 2 ∷ 2 ∷ 2 ∷ []
above_leaves = refl

above_one : map (λ p. map (loops_above 2 4 p 3) four) around_one
    ≡ (2 ∷ 4 ∷ 4 ∷ 5 ∷ []) ∷ (2 ∷ 4 ∷ 4 ∷ 5 ∷ []) ∷ (2 ∷ 4 ∷ 4 ∷ 5 ∷ []) ∷ (2 ∷ 4 ∷ 5 ∷ 6 ∷ []) ∷ []
above_one = refl

above_two : map (λ p. map (loops_above 2 4 p 3) seven) around_two
    ≡ (2 ∷ 4 ∷ 4 ∷ 5 ∷ 4 ∷ 4 ∷ 5 ∷ []) ∷ (2 ∷ 4 ∷ 4 ∷ 5 ∷ 4 ∷ 4 ∷ 5 ∷ []) ∷ (2 ∷ 4 ∷ 4 ∷ 5 ∷ 4 ∷ 4 ∷ 5 ∷ []) ∷ []
above_two = refl

-- ---- keys in a body: 0 loop, 1 sequence, 2 pause, 3 loop, 4 parallel, 5 trap, 6 pause, 7 pause

abbrev body : Term
body = Loop place (Seq Pause (Loop place (Par (Trap Pause) Pause)))

abbrev sharing : Sharing
sharing = body_sharing body

as_roots : map sharing.root (0 ∷ 1 ∷ 2 ∷ 3 ∷ 4 ∷ 5 ∷ 6 ∷ 7 ∷ []) ≡ 0 ∷ 0 ∷ 1 ∷ 1 ∷ 1 ∷ 2 ∷ 2 ∷ 2 ∷ []
as_roots = refl

as_resumed : map sharing.resumed (0 ∷ 1 ∷ 2 ∷ 3 ∷ 4 ∷ 5 ∷ 6 ∷ 7 ∷ []) ≡ 0 ∷ 1 ∷ 1 ∷ 1 ∷ 2 ∷ 2 ∷ 2 ∷ 2 ∷ []
as_resumed = refl

-- the first pause begins anew with the outer loop alone, and the trap with the second part and with the inner loop
where_live : map (λ n. layers_of (sharing.live n)) (2 ∷ 5 ∷ [])
    ≡ (Resumed ∷ Started 0 ∷ []) ∷ (Resumed ∷ Started 3 ∷ Started 4 ∷ []) ∷ []
where_live = refl

keys : key sharing 3 Resumed ∷ key sharing 3 (Started 3) ∷ key sharing 4 Resumed ∷ key sharing 4 (Started 3) ∷ key sharing 4 (Started 4)
    ∷ key sharing 4 (Started 5) ∷ [] ≡ 1 ∷ 1 ∷ 2 ∷ 1 ∷ 1 ∷ 2 ∷ []
keys = refl

-- ---- what is seen where just one wire is true

abbrev seen : Wire → List Wire → List Bool
seen w ws = map (lasting sharing (same_wire w)) ws

-- the loop at 3, started at its own root, has the key of the resumed one; the parallel at 4, started, has another
by_the_resumed_end : seen (End 3 Resumed 1)
    (End 3 Resumed 1 ∷ End 3 (Started 3) 1 ∷ End 3 (Started 1) 1 ∷ End 3 (Started 3) 0 ∷ Out 3 ∷ Go 3 (Started 3) ∷ StatusOf 3 (Started 3) ∷ [])
    ≡ true ∷ true ∷ false ∷ false ∷ false ∷ false ∷ false ∷ []
by_the_resumed_end = refl

of_another_key : seen (End 4 Resumed 1) (End 4 Resumed 1 ∷ End 4 (Started 3) 1 ∷ End 4 (Started 4) 1 ∷ []) ≡ true ∷ false ∷ false ∷ []
of_another_key = refl

by_its_own_end : seen (End 4 (Started 4) 1) (End 4 Resumed 1 ∷ End 4 (Started 3) 1 ∷ End 4 (Started 4) 1 ∷ End 4 (Started 4) 2 ∷ [])
    ≡ false ∷ false ∷ true ∷ false ∷ []
by_its_own_end = refl

other_wires : map (λ w. lasting sharing (same_wire w) w) (Out 3 ∷ Go 3 Resumed ∷ Go 3 (Started 3) ∷ StatusOf 3 Resumed ∷ StatusOf 3 (Started 3) ∷ [])
    ≡ true ∷ true ∷ true ∷ true ∷ true ∷ []
other_wires = refl
