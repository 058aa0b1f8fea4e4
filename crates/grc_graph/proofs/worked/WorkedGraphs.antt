-- Worked instants of a small graph, by hand: the values of its wires, what is shown, and which pause is selected next.
use Rattle.std.proofs.Common.{◌≡◌, ℕ, ◌==◌, Bool, true, false, List, [], ◌∷◌, map, codes, refl}
use Rattle.std.specs.List.{list_any}
use Rattle.est_kernel.specs.Plain.{Program}
use Rattle.est_kernel.specs.Terms.{Sig, Pause, Emit, Present}
use Rattle.grc_graph.specs.GraphRuns.{PlainGraph, ShownInstant, graph_of, program_wires, formula_value, next_state, shown}
use Rattle.grc_graph.specs.Layers.{Resumed, Started}
use Rattle.grc_graph.specs.Walk.{State, Initial, Selecting}
use Rattle.grc_graph.specs.Wires.{Wire, Out, Go, End, same_wire, listed, codes_below}

-- 0 present, 1 emit, 2 pause
abbrev program : Program
program = record {
  name = codes "T";
  signals = codes "A" ∷ codes "O" ∷ [];
  inputs = 1;
  both = 0;
  outputs = 1;
  relations = [];
  body = Present (Sig 0) (Emit 1) Pause;
}

abbrev graph : PlainGraph
graph = graph_of program

wires : program_wires program
    ≡ Out 1 ∷ Go 0 Resumed ∷ End 0 Resumed 0 ∷ Go 0 (Started 0) ∷ End 0 (Started 0) 0 ∷ End 0 (Started 0) 1 ∷ Go 1 (Started 0) ∷ End 1 (Started 0) 0
    ∷ Go 2 Resumed ∷ End 2 Resumed 0 ∷ Go 2 (Started 0) ∷ End 2 (Started 0) 1 ∷ []
unfolding listed codes_below
wires = refl

abbrev among : List Wire → Wire → Bool
among ws w = list_any (same_wire w) ws

-- what the equations ask where just these wires are true
abbrev asked : State → List Bool → List Wire → List Bool
asked q event ws = map (λ e. formula_value graph q event (among ws) e.formula) graph.equations

abbrev had : List Wire → List Bool
had ws = map (λ e. among ws e.wire) graph.equations

-- in the first instant with the input
abbrev with_input : List Wire
with_input = Out 1 ∷ Go 0 (Started 0) ∷ End 0 (Started 0) 0 ∷ Go 1 (Started 0) ∷ End 1 (Started 0) 0 ∷ []

it_emits : asked Initial (true ∷ []) with_input ≡ had with_input
unfolding listed codes_below
it_emits = refl

-- in the first instant without
abbrev without_input : List Wire
without_input = Go 0 (Started 0) ∷ End 0 (Started 0) 1 ∷ Go 2 (Started 0) ∷ End 2 (Started 0) 1 ∷ []

it_pauses : asked Initial (false ∷ []) without_input ≡ had without_input
unfolding listed codes_below
it_pauses = refl

-- behind that
abbrev resumed : List Wire
resumed = Go 0 Resumed ∷ End 0 Resumed 0 ∷ Go 2 Resumed ∷ End 2 Resumed 0 ∷ []

it_ends : asked (Selecting (λ n. n == 2)) (true ∷ []) resumed ≡ had resumed
unfolding listed codes_below
it_ends = refl

abbrev shows : Bool → Bool → ShownInstant
shows output paused = record { outputs = output ∷ []; paused = paused }

-- a pause is shown in either layer
instants : map (λ ws. shown graph (among ws)) (with_input ∷ without_input ∷ resumed ∷ (End 0 Resumed 1 ∷ []) ∷ [])
    ≡ shows true false ∷ shows false true ∷ shows false false ∷ shows false true ∷ []
instants = refl

abbrev selects : State → ℕ → Bool
selects Initial n = false
selects (Selecting S) n = S n

selected_next : selects (next_state graph Initial (true ∷ []) (among with_input)) 2 ∷ selects (next_state graph Initial (false ∷ []) (among without_input)) 2
    ∷ selects (next_state graph (Selecting (λ n. n == 2)) (true ∷ []) (among resumed)) 2 ∷ [] ≡ false ∷ true ∷ false ∷ []
selected_next = refl
