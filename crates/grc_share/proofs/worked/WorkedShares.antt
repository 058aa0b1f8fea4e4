-- Worked shared instances, by hand: which instances, statuses and wires are one, and how many are counted. The body is a loop around a sequence of two
-- pauses: 0 loop, 1 sequence, 2 pause, 3 pause; starts are 0, 1 and 3.
use Rattle.std.proofs.Common.{◌≡◌, true, false, List, [], ◌∷◌, map, codes, refl}
use Rattle.base_types.specs.declared.place.Span.{Span}
use Rattle.est_kernel.specs.Terms.{Sig, Term, Nothing, Pause, Present, Seq, Loop}
use Rattle.grc_graph.specs.Layers.{Resumed, Started}
use Rattle.grc_graph.specs.LoopKeys.{Sharing, body_sharing}
use Rattle.grc_graph.specs.Wires.{Wire, Out, Go, StatusOf, End, listed, codes_below}
use Rattle.grc_share.specs.SharedInstances.{one_instance, one_status}
use Rattle.grc_share.specs.SharedSizes.{shared_size}
use Rattle.grc_share.specs.SharedWires.{one_wire}

abbrev place : Span
place = record { start = 0; end = 1 }

abbrev body : Term
body = Loop place (Seq Pause Pause)

-- no loop body stands above the roots 0 and 1, and one above the root 3, as around what is resumed
abbrev sharing : Sharing
sharing = body_sharing body

which_instances : map (one_instance sharing 3 (Started 0)) (Started 0 ∷ Started 1 ∷ Started 3 ∷ Resumed ∷ []) ≡ true ∷ true ∷ false ∷ false ∷ []
which_instances = refl

what_is_resumed : map (one_instance sharing 3 Resumed) (Started 0 ∷ Started 3 ∷ Resumed ∷ []) ≡ false ∷ false ∷ true ∷ []
what_is_resumed = refl

which_statuses : map (one_status sharing 3 Resumed) (Started 0 ∷ Started 3 ∷ Resumed ∷ []) ≡ false ∷ true ∷ true ∷ []
which_statuses = refl

statuses_of_starts : map (one_status sharing 3 (Started 0)) (Started 1 ∷ Started 3 ∷ []) ≡ true ∷ false ∷ []
statuses_of_starts = refl

abbrev wires : List Wire
wires = Out 3 ∷ Go 3 (Started 1) ∷ Go 2 (Started 1) ∷ Go 3 (Started 3) ∷ StatusOf 3 (Started 1) ∷ StatusOf 3 Resumed ∷ End 3 (Started 1) 1
    ∷ End 3 (Started 1) 0
    ∷ End 3 (Started 3) 1 ∷ []

of_signals : map (one_wire sharing (Out 3)) wires ≡ true ∷ false ∷ false ∷ false ∷ false ∷ false ∷ false ∷ false ∷ false ∷ []
of_signals = refl

of_runs : map (one_wire sharing (Go 3 (Started 0))) wires ≡ false ∷ true ∷ false ∷ false ∷ false ∷ false ∷ false ∷ false ∷ false ∷ []
of_runs = refl

of_statuses : map (one_wire sharing (StatusOf 3 (Started 3))) wires ≡ false ∷ false ∷ false ∷ false ∷ false ∷ true ∷ false ∷ false ∷ false ∷ []
of_statuses = refl

of_ends : map (one_wire sharing (End 3 (Started 0) 1)) wires ≡ false ∷ false ∷ false ∷ false ∷ false ∷ false ∷ true ∷ false ∷ false ∷ []
of_ends = refl

-- `go` and `end` of each of two started instances, and a test of one node
of_a_program : shared_size (record {
  name = codes "T";
  signals = codes "A" ∷ [];
  inputs = 1;
  both = 0;
  outputs = 0;
  relations = [];
  body = Present (Sig 0) Nothing Nothing;
}) ≡ 7
unfolding listed codes_below
of_a_program = refl
