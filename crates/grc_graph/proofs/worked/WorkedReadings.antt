-- Worked words, nodes and orders, by hand: what keeps and what holds an instance in one body with every form around a pause, the node of each form, and what
-- is an order of three wires.
use Rattle.std.proofs.Common.{◌≡◌, ℕ, ◌==◌, Bool, true, false, List, [], ◌∷◌, Some, map, refl, arith, lit<}
use Rattle.std.specs.Prelude.{⊤, ◌&&◌}
use Rattle.base_types.specs.declared.indices.WireId.{WireId}
use Rattle.base_types.specs.declared.place.Span.{Span}
use Rattle.est_kernel.specs.Terms.{Tick, Sig, Term, Nothing, Pause, Emit, Exit, Present, Suspend, Seq, Loop, Par, Trap, Local}
use Rattle.grc_graph.specs.Formulas.{Value, Upto, Kept, Held, Negation, Conjunction, Disjunction}
use Rattle.grc_graph.specs.Layers.{Resumed, Started}
use Rattle.grc_graph.specs.Nodes.{Node, Fork, Sync, Switch, Tested, Enter, Emission, Definition, Leave, Through, node_at}
use Rattle.grc_graph.specs.Readings.{holds_at, kept_at, held_at}
use Rattle.grc_graph.specs.Reads.{ReadsOnly}
use Rattle.grc_graph.specs.Scopes.{Scope, Outgoing}
use Rattle.grc_graph.specs.WireOrders.{WireEdge, edge_before, AreRanks, IsWireOrder, times}
use Rattle.grc_graph.specs.Wires.{Wire, Out, Go, StatusOf, End}

abbrev place : Span
place = record { start = 0; end = 1 }

-- 0 present, 1 pause, 2 loop, 3 trap, 4 signal, 5 parallel, 6 pause, 7 sequence, 8 pause, 9 suspend, 10 pause
abbrev body : Term
body = Present Tick Pause (Loop place (Trap (Local 7 (Par Pause (Seq Pause (Suspend (Sig 7) Pause))))))

abbrev numbers : List ℕ
numbers = 0 ∷ 1 ∷ 2 ∷ 3 ∷ 4 ∷ 5 ∷ 6 ∷ 7 ∷ 8 ∷ 9 ∷ 10 ∷ []

-- the suspension runs, the signal is present, and the parallel ends with code 1 or not
abbrev valued : Bool → Wire → Bool
valued pauses (Out s) = false
valued pauses (Go n l) = n == 9
valued pauses (StatusOf n l) = n == 4
valued pauses (End n l k) = pauses && (n == 5 && k == 1)

abbrev outgoing : Scope
outgoing = λ s. Outgoing

who_holds_a_pause : map (holds_at (λ n. n == 10) body 0) numbers
    ≡ true ∷ false ∷ true ∷ true ∷ true ∷ true ∷ false ∷ true ∷ false ∷ true ∷ true ∷ []
who_holds_a_pause = refl

who_is_kept : map (λ m. kept_at (valued true) body 0 m Resumed) numbers
    ≡ true ∷ true ∷ true ∷ true ∷ true ∷ true ∷ true ∷ true ∷ true ∷ true ∷ true ∷ []
who_is_kept = refl

who_is_kept_no_more : map (λ m. kept_at (valued false) body 0 m Resumed) numbers
    ≡ true ∷ true ∷ true ∷ true ∷ true ∷ true ∷ false ∷ false ∷ false ∷ false ∷ false ∷ []
who_is_kept_no_more = refl

who_is_held : map (λ m. held_at (λ s. false) (valued true) outgoing body 0 m Resumed) numbers
    ≡ false ∷ false ∷ false ∷ false ∷ false ∷ false ∷ false ∷ false ∷ false ∷ true ∷ true ∷ []
who_is_held = refl

who_is_held_no_more : map (λ m. held_at (λ s. false) (valued false) outgoing body 0 m Resumed) numbers
    ≡ false ∷ false ∷ false ∷ false ∷ false ∷ false ∷ false ∷ false ∷ false ∷ false ∷ false ∷ []
who_is_held_no_more = refl

-- ---- the node of each form, started and resumed

abbrev nodes : Term → List Node
nodes p = node_at outgoing p 3 (Started 0) ∷ node_at outgoing p 3 Resumed ∷ []

of_each_form : map nodes (Nothing ∷ Pause ∷ Emit 5 ∷ Exit 2 ∷ Present Tick Pause Pause ∷ Suspend Tick Pause ∷ Seq Pause Pause ∷ Loop place Pause
    ∷ Par Pause Pause
    ∷ Trap Pause ∷ Local 7 Pause ∷ [])
    ≡ (Through 3 (Started 0) ∷ Through 3 Resumed ∷ [])
    ∷ (Enter 3 (Started 0) ∷ Through 3 Resumed ∷ [])
    ∷ (Emission 3 (Started 0) (Some (Out 5)) ∷ Emission 3 Resumed (Some (Out 5)) ∷ [])
    ∷ (Leave 3 (Started 0) 2 ∷ Leave 3 Resumed 2 ∷ [])
    ∷ (Tested 3 (Started 0) ∷ Switch 3 Resumed ∷ [])
    ∷ (Through 3 (Started 0) ∷ Tested 3 Resumed ∷ [])
    ∷ (Through 3 (Started 0) ∷ Switch 3 Resumed ∷ [])
    ∷ (Through 3 (Started 0) ∷ Through 3 Resumed ∷ [])
    ∷ (Fork 4 5 (Started 0) ∷ Sync 3 Resumed ∷ [])
    ∷ (Through 3 (Started 0) ∷ Through 3 Resumed ∷ [])
    ∷ (Definition 3 (Started 0) (StatusOf 3 (Started 0)) ∷ Definition 3 Resumed (StatusOf 3 Resumed) ∷ [])
    ∷ []
of_each_form = refl

-- ---- orders of three wires, where 0 goes to 2

abbrev wire : ℕ → WireId
wire n = record { 0 = n }

abbrev pairs : List WireEdge
pairs = (wire 0, wire 2) ∷ []

before : map (edge_before (wire 1, wire 1)) ((wire 0, wire 9) ∷ (wire 1, wire 0) ∷ (wire 1, wire 1) ∷ (wire 1, wire 2) ∷ (wire 2, wire 0) ∷ [])
    ≡ false ∷ false ∷ false ∷ true ∷ true ∷ []
before = refl

how_often : map (times (wire 1 ∷ wire 0 ∷ wire 1 ∷ [])) (0 ∷ 1 ∷ 2 ∷ []) ≡ 1 ∷ 2 ∷ 0 ∷ []
how_often = refl

no_ranks_that_fall : AreRanks 3 pairs (1 ∷ 0 ∷ 1 ∷ []) → ⊥
no_ranks_that_fall h = let low = h.grow 0 (wire 0, wire 0) (lit< tt) in omega (arith, low)

no_ranks_of_two : AreRanks 3 pairs (0 ∷ 1 ∷ []) → ⊥
no_ranks_of_two h = let e = h.each_wire in omega (arith, e)

no_order_against_the_edge : IsWireOrder 3 pairs (wire 2 ∷ wire 1 ∷ wire 0 ∷ []) → ⊥
no_order_against_the_edge h = let low = h.along 0 2 0 (lit< tt) (lit< tt) (lit< tt) refl refl in omega (arith, low)

no_order_of_two : IsWireOrder 3 pairs (wire 0 ∷ wire 2 ∷ []) → ⊥
no_order_of_two h = let e = h.each_place in omega (arith, e)

no_order_with_one_twice : IsWireOrder 3 pairs (wire 0 ∷ wire 2 ∷ wire 2 ∷ []) → ⊥
no_order_with_one_twice h = let e : 2 ≡ 1 = h.each_once 2 (lit< tt) in omega (arith, e)

no_order_with_a_fourth : IsWireOrder 3 pairs (wire 0 ∷ wire 3 ∷ wire 2 ∷ []) → ⊥
no_order_with_a_fourth h = let low = h.in_range 1 (wire 0) (lit< tt) in omega (arith, low)

-- ---- what formulas read

reads_both : ReadsOnly (λ w. w ≡ Out 1) (Conjunction (Value (Out 1)) (Value (Out 2))) → ⊥
reads_both h = let e = h.1 in cc

reads_either : ReadsOnly (λ w. w ≡ Out 1) (Disjunction (Value (Out 2)) (Value (Out 1))) → ⊥
reads_either h = let e = h.0 in cc

reads_below_a_not : ReadsOnly (λ w. w ≡ Out 1) (Negation (Value (Out 2))) → ⊥
reads_below_a_not h = cc

reads_ends : ReadsOnly (λ w. w ≡ End 3 Resumed 0) (Upto 3 Resumed 1) → ⊥
reads_ends h = let e = h 1 (omega arith) in cc

no_words_of_the_next_state : ReadsOnly (λ w. ⊤) (Kept 3 Resumed) → ⊥
no_words_of_the_next_state h = h

nor_what_is_held : ReadsOnly (λ w. ⊤) (Held 3 Resumed) → ⊥
nor_what_is_held h = h
