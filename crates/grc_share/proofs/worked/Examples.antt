-- Written by hand: the shared wires of worked examples: how many starts are left, which statuses are one, and edges that close a walk once wires are
-- shared, where none does before.
use Rattle.std.specs.Prelude.{◌≡◌, Bool, true, false, ◌&&◌, List, [], ◌∷◌, filter, length, map, zip}
use Rattle.std.specs.List.{list_all, list_any}
use Rattle.std.proofs.Common.{refl}
use Rattle.base_types.specs.declared.place.Span.{Span}
use Rattle.est_kernel.specs.Plain.{Program}
use Rattle.est_kernel.specs.Terms.{Sig, Term, Nothing, Pause, Emit, Present, Seq, Loop, Par, Local}
use Rattle.grc_graph.specs.Edges.{Edge, edge}
use Rattle.grc_graph.specs.GraphRuns.{program_wires}
use Rattle.grc_graph.specs.Layers.{Resumed, Started, body_layers}
use Rattle.grc_graph.specs.Wires.{Wire, Out, Go, StatusOf, End, listed, codes_below, same_wire}
use Rattle.grc_share.specs.SharedInstances.{body_sharing}
use Rattle.grc_share.specs.SharedWires.{shared_layers, shared_edges, shared_wires, status_layer}

abbrev place : Span
place = record { start = 0; end = 1 }

-- a program of one input, or of one output
abbrev reads_input : Term → Program
reads_input t = record { name = []; signals = []; inputs = 1; both = 0; outputs = 0; relations = []; body = t }

abbrev writes_output : Term → Program
writes_output t = record { name = []; signals = []; inputs = 0; both = 0; outputs = 1; relations = []; body = t }

abbrev is_go : Wire → Bool
is_go (Out s) = false
is_go (Go n l) = true
is_go (StatusOf n l) = false
is_go (End n l k) = false

abbrev wires_of : Program → List Wire
unfolding listed codes_below
wires_of p = program_wires p

abbrev shared_wires_of : Program → List Wire
unfolding listed codes_below
shared_wires_of p = shared_wires p

-- `present A then pause end`
abbrev passing : Term
passing = Present (Sig 0) Pause Nothing

-- three of them in a row: each may pass at once, so that the second has two starts and the third three
abbrev row : Term
row = Seq passing (Seq passing passing)

row_starts : length (filter is_go (wires_of (reads_input row))) ≡ 29
unfolding wires_of
row_starts = refl

row_shared : length (filter is_go (shared_wires_of (reads_input row))) ≡ 19
unfolding shared_wires_of
row_shared = refl

-- in a loop, where what the loop's body starts again is another one
abbrev looped : Term
looped = Loop place (Seq passing (Seq passing Pause))

looped_second : body_layers looped 6 ≡ Resumed ∷ Started 0 ∷ Started 1 ∷ Started 5 ∷ []
looped_second = refl

looped_shared : shared_layers (body_sharing looped) 6 ≡ Resumed ∷ Started 0 ∷ Started 5 ∷ []
looped_shared = refl

-- `loop signal S in present S then emit O end; pause; emit S end end`: the body has one start, whether with the loop or
-- again; the status of what is resumed is another, as the signal is a new one where the loop restarts
abbrev restarted : Term
restarted = Loop place (Local 1 (Seq (Present (Sig 1) (Emit 0) Nothing) (Seq Pause (Emit 1))))

restarted_test : body_layers restarted 3 ≡ Started 0 ∷ Started 1 ∷ []
restarted_test = refl

restarted_shared : shared_layers (body_sharing restarted) 3 ≡ Started 0 ∷ []
restarted_shared = refl

restarted_statuses : map (status_layer (body_sharing restarted) 1) (body_layers restarted 1) ≡ Resumed ∷ Started 0 ∷ Started 0 ∷ []
restarted_statuses = refl

-- where a sequence starts a Local a second time, what is resumed and what is started have one status
abbrev again : Term
again = Seq passing (Local 1 Pause)

again_statuses : map (status_layer (body_sharing again) 4) (body_layers again 4) ≡ Resumed ∷ Resumed ∷ Resumed ∷ []
again_statuses = refl

-- Two threads that hand each other a signal, one where it is started and one where it is resumed:
-- `[present S else pause end; emit T; emit O] || [emit S; pause; present T then emit S end]`. No edges close a walk, but
-- those between shared wires do.
abbrev handing : Program
handing = writes_output
    (Local 1 (Local 2 (Par (Seq (Present (Sig 1) Nothing Pause) (Seq (Emit 2) (Emit 0))) (Seq (Emit 1) (Seq Pause (Present (Sig 2) (Emit 1) Nothing))))))

abbrev same_edge : Edge → Edge → Bool
same_edge e f = same_wire e.from f.from && same_wire e.to f.to

abbrev has_edges : Program → List Wire → List Wire → Bool
unfolding listed codes_below
has_edges p us ws = list_all (λ e. list_any (same_edge (edge e.0 e.1)) (shared_edges p)) (zip us ws)

abbrev walk : List Wire
walk =
    Go 5 (Started 0) ∷ End 5 (Started 0) 0 ∷ End 4 (Started 0) 0 ∷ Go 7 (Started 0) ∷ Go 8 (Started 0) ∷ StatusOf 1 Resumed ∷ Go 15 (Started 14) ∷ []

-- each wire of the walk has an edge to the next, and the last one to the first
abbrev nexts : List Wire → Wire → List Wire
nexts [] first = first ∷ []
nexts (w ∷ ws) first = w ∷ nexts ws first

handing_walk : has_edges handing (StatusOf 0 Resumed ∷ walk) (nexts walk (StatusOf 0 Resumed)) ≡ true
unfolding has_edges
handing_walk = refl
