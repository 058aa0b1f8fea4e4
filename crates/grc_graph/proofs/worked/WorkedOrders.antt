-- Worked places, by hand: which instance comes first, what stands around a statement, what a state leaves, which order reads, and runs of a small graph.
use Rattle.std.proofs.Common.{◌≡◌, ◌<◌, ◌≤◌, ℕ, zero, suc, ◌==◌, true, false, List, [], ◌∷◌, map, None}
use Rattle.std.proofs.Common.{slice_index_or, codes, refl, inl, inr, ⊎_elim, arith, lit<}
use Rattle.std.proofs.lemmas.Bool.{false≢true, true≢false}
use Rattle.std.proofs.lemmas.List.Elements.{All-cons, All-nil}
use Rattle.base_types.specs.Items.{Event, Reset}
use Rattle.base_types.specs.declared.bounds.TheConstants.Limits.{WIRES}
use Rattle.base_types.specs.declared.indices.WireId.{WireId}
use Rattle.base_types.specs.declared.place.Span.{Span}
use Rattle.est_kernel.specs.Plain.{Program, program_of}
use Rattle.est_kernel.specs.Terms.{Tick, Sig, Term, Nothing, Pause, Emit, Exit, Present, Suspend, Seq, Loop, Par, Trap, Local, Awake}
use Rattle.grc_graph.specs.BuiltGraphs.{IsGraphOf}
use Rattle.grc_graph.specs.Edges.{edge}
use Rattle.grc_graph.specs.Formulas.{Formula, Const, Boot, Value, Conjunction, all_of}
use Rattle.grc_graph.specs.GraphRuns.{PlainGraph, SolvesGraph, IsGraphRun, graph_of, next_state, program_edges, program_spots, program_wires}
use Rattle.grc_graph.specs.GraphSizes.{graph_size}
use Rattle.grc_graph.specs.Instances.{Instance, LayerBefore, Before, Ascends, enclosing, body_instances}
use Rattle.grc_graph.specs.Layers.{Layer, Resumed, Started}
use Rattle.grc_graph.specs.Nodes as plain
use Rattle.grc_graph.specs.PlainGraphs.{wire_at, instances_of, names_of, node_form, plain_graph}
use Rattle.grc_graph.specs.Readings.{Valuation}
use Rattle.grc_graph.specs.Reads.{ReadsOnly, StandsBefore, IsReadingOrder}
use Rattle.grc_graph.specs.Walk.{State, Initial, Selecting, state_holds, remaining}
use Rattle.grc_graph.specs.WireOrders as places
use Rattle.grc_graph.specs.WireOrders.{times}
use Rattle.grc_graph.specs.Wires.{Wire, Out, Go, End, listed, codes_below}
use Rattle.grc_graph.specs.declared.graph.Graph.{Graph}

abbrev place : Span
place = record { start = 0; end = 1 }

-- ---- the order of instances

layers_in_order : LayerBefore Resumed (Started 0) × LayerBefore (Started 1) (Started 2)
layers_in_order = (tt, lit< tt)

resumed_not_again : LayerBefore Resumed Resumed → ⊥
resumed_not_again h = h

no_start_before_what_is_resumed : LayerBefore (Started 0) Resumed → ⊥
no_start_before_what_is_resumed h = h

no_start_again : LayerBefore (Started 2) (Started 2) → ⊥
no_start_again low = omega (arith, low)

abbrev instance : ℕ → Layer → Instance
instance n l = record { path = n; layer = l }

by_statement : Before (instance 3 (Started 2)) (instance 4 Resumed)
by_statement = inl (lit< tt)

by_layer : Before (instance 3 Resumed) (instance 3 (Started 2))
by_layer = inr (refl, tt)

not_before_itself : Before (instance 3 Resumed) (instance 3 Resumed) → ⊥
not_before_itself h = ⊎_elim (λ low. omega (arith, low)) (λ e. e.1) h

not_backwards : Before (instance 4 Resumed) (instance 3 (Started 2)) → ⊥
not_backwards h = ⊎_elim (λ low. omega (arith, low)) (λ e. let same = e.0 in omega (arith, same)) h

they_ascend : Ascends (instance 3 Resumed ∷ instance 4 Resumed ∷ [])
they_ascend = (All-cons (Before (instance 3 Resumed)) (instance 4 Resumed) [] (inl (lit< tt)) (All-nil _), (All-nil _, tt))

none_twice : Ascends (instance 3 Resumed ∷ instance 3 Resumed ∷ []) → ⊥
none_twice h = not_before_itself (h.0 0 (instance 0 Resumed) (lit< tt))

none_twice_behind : Ascends (instance 2 Resumed ∷ instance 3 Resumed ∷ instance 3 Resumed ∷ []) → ⊥
none_twice_behind h = not_before_itself (h.1.0 0 (instance 0 Resumed) (lit< tt))

-- ---- what stands around: 0 present, 1 pause, 2 loop, 3 trap, 4 signal, 5 parallel, 6 emit, 7 sequence, 8 exit, 9 suspend, 10 nothing

abbrev body : Term
body = Present Tick Pause (Loop place (Trap (Local 7 (Par (Emit 1) (Seq (Exit 2) (Suspend (Sig 7) Nothing))))))

around_each : map (enclosing body 0) (0 ∷ 1 ∷ 2 ∷ 3 ∷ 4 ∷ 5 ∷ 6 ∷ 7 ∷ 8 ∷ 9 ∷ 10 ∷ [])
    ≡ (0 ∷ []) ∷ (0 ∷ 1 ∷ []) ∷ (0 ∷ 2 ∷ []) ∷ (0 ∷ 2 ∷ 3 ∷ []) ∷ (0 ∷ 2 ∷ 3 ∷ 4 ∷ []) ∷ (0 ∷ 2 ∷ 3 ∷ 4 ∷ 5 ∷ []) ∷ (0 ∷ 2 ∷ 3 ∷ 4 ∷ 5 ∷ 6 ∷ [])
    ∷ (0 ∷ 2 ∷ 3 ∷ 4 ∷ 5 ∷ 7 ∷ []) ∷ (0 ∷ 2 ∷ 3 ∷ 4 ∷ 5 ∷ 7 ∷ 8 ∷ []) ∷ (0 ∷ 2 ∷ 3 ∷ 4 ∷ 5 ∷ 7 ∷ 9 ∷ []) ∷ (0 ∷ 2 ∷ 3 ∷ 4 ∷ 5 ∷ 7 ∷ 9 ∷ 10 ∷ []) ∷ []
around_each = refl

around_a_rest : map (enclosing (Awake Tick Pause) 3) (3 ∷ 4 ∷ []) ≡ (3 ∷ []) ∷ (3 ∷ 4 ∷ []) ∷ []
around_a_rest = refl

-- ---- states

abbrev fourth : State
fourth = Selecting (λ n. n == 4)

what_is_held : state_holds fourth Pause 4 ∷ state_holds fourth Pause 3 ∷ state_holds Initial Pause 4 ∷ [] ≡ true ∷ false ∷ false ∷ []
what_is_held = refl

abbrev two_pauses : Term
two_pauses = Seq Pause Pause

what_is_left : remaining Initial two_pauses ∷ remaining (Selecting (λ n. n == 1)) two_pauses ∷ remaining (Selecting (λ n. n == 2)) two_pauses ∷ []
    ≡ two_pauses ∷ Seq Nothing Pause ∷ Nothing ∷ []
what_is_left = refl

all_of_some : all_of [] ∷ all_of (Boot ∷ []) ∷ all_of (Boot ∷ Const false ∷ Const true ∷ []) ∷ []
    ≡ Const true ∷ Boot ∷ Conjunction Boot (Conjunction (Const false) (Const true)) ∷ []
all_of_some = refl

-- ---- the graph of a program that does nothing

abbrev program : Program
program = record { name = codes "T"; signals = []; inputs = 0; both = 0; outputs = 0; relations = []; body = Nothing }

abbrev graph : PlainGraph
graph = graph_of program

its_edges : program_edges program ≡ edge (Go 0 (Started 0)) (End 0 (Started 0) 0) ∷ []
unfolding listed codes_below
its_edges = refl

it_begins : SolvesGraph graph Initial [] (λ w. false) → ⊥
unfolding listed codes_below
it_begins h = false≢true (h.met 0 (record { wire = Out 0; formula = Boot }) (lit< tt))

others_are_false : SolvesGraph graph Initial [] (λ w. true) → ⊥
unfolding listed codes_below
others_are_false h = true≢false (h.others (Out 9) refl)

of_the_first_instant : (q : State) (V W : Valuation) → IsGraphRun graph q (Event [] ∷ Event [] ∷ []) (V ∷ W ∷ [])
    → SolvesGraph graph q [] V × SolvesGraph graph (next_state graph q [] V) [] W
of_the_first_instant q V W h = (h.0, h.1.0)

behind_a_reset : (q : State) (V : Valuation) → IsGraphRun graph q (Reset ∷ Event [] ∷ []) (V ∷ []) → SolvesGraph graph Initial [] V
behind_a_reset q V h = h.0

-- ---- orders in which the first of two wires reads the second

abbrev wire : ℕ → WireId
wire n = record { 0 = n }

abbrev names : List Wire
names = Out 0 ∷ Out 1 ∷ []

abbrev formulas : List Formula
formulas = Value (Out 1) ∷ Boot ∷ []

it_stands_before : StandsBefore (wire 1 ∷ wire 0 ∷ []) 1 1
it_stands_before = (0, lit< tt, refl)

it_does_not : StandsBefore (wire 1 ∷ wire 0 ∷ []) 0 1 → ⊥
it_does_not (zero, low, is) = omega (arith, is)
it_does_not (suc i, low, is) = omega (arith, low)

not_in_this_order : IsReadingOrder names formulas (wire 0 ∷ wire 1 ∷ []) → ⊥
not_in_this_order h = let low = (h.along 0 Boot (lit< tt) 1 (lit< tt) refl).1 in omega (arith, low)

not_one_alone : IsReadingOrder names formulas (wire 1 ∷ []) → ⊥
not_one_alone h = let e = h.each_place in omega (arith, e)

not_one_twice : IsReadingOrder names formulas (wire 1 ∷ wire 1 ∷ []) → ⊥
not_one_twice h = let e : 2 ≡ 1 = h.each_once 1 (lit< tt) in omega (arith, e)

not_a_third : IsReadingOrder names formulas (wire 1 ∷ wire 2 ∷ []) → ⊥
not_a_third h = let low = h.in_range 1 (wire 0) (lit< tt) in omega (arith, low)

out_is_another : Out 0 ≡ Out 1 → ⊥
out_is_another e = cc

in_the_other_order : IsReadingOrder names formulas (wire 1 ∷ wire 0 ∷ [])
in_the_other_order = record {
  each_place = refl;
  in_range = All-cons (λ w. w.0 < 2) (wire 1) (wire 0 ∷ []) (lit< tt) (All-cons (λ w. w.0 < 2) (wire 0) [] (lit< tt) (All-nil _));
  each_once = once;
  along = reads;
}
  where
    once : (w : ℕ) → w < 2 → times (wire 1 ∷ wire 0 ∷ []) w ≡ 1
    once zero low = refl
    once (suc zero) low = refl
    once (suc (suc w)) low = absurd (omega (arith, low))

    second : (v : ℕ) → v < 2 → wire_at names v ≡ Out 1 → StandsBefore (wire 1 ∷ wire 0 ∷ []) v 1
    second zero low e = absurd (out_is_another e)
    second (suc zero) low e = it_stands_before
    second (suc (suc v)) low e = absurd (omega (arith, low))

    reads : (j : ℕ) (d : Formula) → j < 2
        → ReadsOnly (λ u. (v : ℕ) → v < 2 → wire_at names v ≡ u → StandsBefore (wire 1 ∷ wire 0 ∷ []) v j)
        (slice_index_or formulas (places.wire_at (wire 1 ∷ wire 0 ∷ []) j) d)
    reads zero d low = tt
    reads (suc zero) d low = second
    reads (suc (suc j)) d low = absurd (omega (arith, low))

-- ---- what it means that a graph is that of a program

it_is_of_the_program : (g : Graph) (p : Program) → IsGraphOf g p
    → (program_of g.program ≡ p) × (instances_of g ≡ body_instances p.body) × (names_of g ≡ program_wires p)
    × (map (node_form (instances_of g) (names_of g)) g.nodes.items ≡ map plain.spot_node (program_spots p)) × (plain_graph g ≡ graph_of p)
    × (graph_size p ≤ WIRES) × (g.loops ≡ None)
it_is_of_the_program g p h = (h.program, h.instances, h.wires, h.nodes, h.graph, h.few, h.own)
