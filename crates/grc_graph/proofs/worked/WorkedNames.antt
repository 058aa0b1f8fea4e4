-- Worked names of wires, by hand: the paths of a body with every form, what its wires are called, and how many test nodes are live.
use Rattle.std.proofs.Common.{◌≡◌, ℕ, List, [], ◌∷◌, map, None, Some, codes, refl}
use Rattle.base_types.specs.declared.place.Span.{Span}
use Rattle.est_kernel.specs.Plain.{Program}
use Rattle.est_kernel.specs.Terms.{Tick, Sig, And, Term, Nothing, Pause, Emit, Exit, Present, Suspend, Seq, Loop, Par, Trap, Local}
use Rattle.grc_graph.specs.GraphSizes.{live_tests}
use Rattle.grc_graph.specs.Layers as layers
use Rattle.grc_graph.specs.WireNames.{Resumed, Started, Out, Go, StatusOf, End, paths, bound_at, wire_name}
use Rattle.grc_graph.specs.Wires as wires

abbrev place : Span
place = record { start = 0; end = 1 }

-- 0 present, 1 pause, 2 loop, 3 trap, 4 signal, 5 parallel, 6 emit, 7 sequence, 8 exit, 9 suspend, 10 nothing
abbrev body : Term
body = Present Tick Pause (Loop place (Trap (Local 2 (Par (Emit 1) (Seq (Exit 2) (Suspend (Sig 2) Nothing))))))

abbrev program : Program
program = record {
  name = codes "T";
  signals = codes "A" ∷ codes "O" ∷ codes "S" ∷ [];
  inputs = 1;
  both = 0;
  outputs = 1;
  relations = [];
  body = body;
}

each_path : paths body ≡ [] ∷ (0 ∷ []) ∷ (1 ∷ []) ∷ (1 ∷ 0 ∷ []) ∷ (1 ∷ 0 ∷ 0 ∷ []) ∷ (1 ∷ 0 ∷ 0 ∷ 0 ∷ []) ∷ (1 ∷ 0 ∷ 0 ∷ 0 ∷ 0 ∷ []) ∷ (1 ∷ 0 ∷ 0 ∷ 0 ∷ 1 ∷ [])
    ∷ (1 ∷ 0 ∷ 0 ∷ 0 ∷ 1 ∷ 0 ∷ []) ∷ (1 ∷ 0 ∷ 0 ∷ 0 ∷ 1 ∷ 1 ∷ []) ∷ (1 ∷ 0 ∷ 0 ∷ 0 ∷ 1 ∷ 1 ∷ 0 ∷ []) ∷ []
each_path = refl

who_binds : map (bound_at body) (0 ∷ 1 ∷ 2 ∷ 3 ∷ 4 ∷ 5 ∷ 6 ∷ 7 ∷ 8 ∷ 9 ∷ 10 ∷ [])
    ≡ None ∷ None ∷ None ∷ None ∷ Some 2 ∷ None ∷ None ∷ None ∷ None ∷ None ∷ None ∷ []
who_binds = refl

names : map (wire_name program) (wires.Out 1 ∷ wires.Go 2 layers.Resumed ∷ wires.Go 9 (layers.Started 2) ∷ wires.StatusOf 4 (layers.Started 0)
    ∷ wires.End 1 layers.Resumed 0 ∷ [])
    ≡ Out (codes "O") ∷ Go (1 ∷ []) Resumed ∷ Go (1 ∷ 0 ∷ 0 ∷ 0 ∷ 1 ∷ 1 ∷ []) (Started (1 ∷ [])) ∷ StatusOf (1 ∷ 0 ∷ 0 ∷ []) (Started []) (codes "S")
    ∷ End (0 ∷ []) Resumed 0 ∷ []
names = refl

abbrev tests : Term → List ℕ
tests p = live_tests p layers.Resumed ∷ live_tests p (layers.Started 0) ∷ []

how_many : map tests (Present (And (Sig 0) Tick) Nothing Nothing ∷ Suspend (And (Sig 0) Tick) Nothing ∷ Par Pause Pause ∷ Nothing ∷ [])
    ≡ (0 ∷ 3 ∷ []) ∷ (3 ∷ 0 ∷ []) ∷ (0 ∷ 0 ∷ []) ∷ (0 ∷ 0 ∷ []) ∷ []
how_many = refl
