-- Written by hand: worked coherence, row by row: what is asked of the wires of each form and of its parts, started and resumed.
use Rattle.std.proofs.Common.{◌≡◌, ℕ, Bool, true, not, ◌&&◌, refl}
use Rattle.base_types.specs.declared.place.Span.{Span}
use Rattle.est_kernel.specs.Terms.{Tick, Sig, Term, Nothing, Pause, Emit, Exit, Present, Suspend, Seq, Loop, Par, Trap, Local, Awake}
use Rattle.grc_graph.specs.Coherence.{statuses, StartedWalked, ResumedWalked}
use Rattle.grc_graph.specs.Layers.{Resumed, Started}
use Rattle.grc_graph.specs.Readings.{Valuation}
use Rattle.grc_graph.specs.Walk.{Values}
use Rattle.grc_graph.specs.Wires.{Go, StatusOf, End}

abbrev place : Span
place = record { start = 0; end = 1 }

status_wires : (V : Valuation) → statuses V 4 (Started 2) ≡ V (StatusOf 4 (Started 2))
status_wires V = refl

-- ---- started at 3, in the layer of the start 2, where b holds

abbrev Begun : Valuation → Values → Bool → Term → Type 0
Begun V v b p = StartedWalked V p 3 (Started 2) v b

abbrev Goes : Valuation → ℕ → Bool → Type 0
Goes V n b = V (Go n (Started 2)) ≡ b

abbrev Ends : Valuation → ℕ → ℕ → Bool → Type 0
Ends V n k b = V (End n (Started 2) k) ≡ b

nothing_begun : (V : Valuation) (v : Values) (b : Bool) → Begun V v b Nothing → Goes V 3 b × Ends V 3 0 (b && true)
nothing_begun V v b h = (h.go, h.ends 0)

pause_begun : (V : Valuation) (v : Values) (b : Bool) → Begun V v b Pause → Goes V 3 b × Ends V 3 1 (b && true)
pause_begun V v b h = (h.go, h.ends 1)

emit_begun : (V : Valuation) (v : Values) (b : Bool) → Begun V v b (Emit 5) → Goes V 3 b × Ends V 3 0 (b && true)
emit_begun V v b h = (h.go, h.ends 0)

exit_begun : (V : Valuation) (v : Values) (b : Bool) → Begun V v b (Exit 4) → Goes V 3 b × Ends V 3 4 (b && true)
exit_begun V v b h = (h.go, h.ends 4)

present_begun : (V : Valuation) (v : Values) (b : Bool) → Begun V v b (Present (Sig 0) Pause Nothing)
    → Goes V 3 b × Goes V 4 (b && v 0) × Ends V 4 1 ((b && v 0) && true) × Goes V 5 (b && not (v 0)) × Ends V 5 0 ((b && not (v 0)) && true)
present_begun V v b h = (h.0.go, h.1.go, h.1.ends 1, h.2.go, h.2.ends 0)

suspend_begun : (V : Valuation) (v : Values) (b : Bool) → Begun V v b (Suspend (Sig 0) Pause) → Goes V 3 b × Ends V 3 1 (b && true) × Goes V 4 b
suspend_begun V v b h = (h.0.go, h.0.ends 1, h.1.go)

sequence_begun : (V : Valuation) (v : Values) (b : Bool) → Begun V v b (Seq Nothing Pause)
    → Goes V 3 b × Ends V 3 1 (b && true) × Goes V 4 b × Goes V 5 (b && true) × Ends V 5 1 ((b && true) && true)
sequence_begun V v b h = (h.0.go, h.0.ends 1, h.1.go, (h.2 refl).go, (h.2 refl).ends 1)

loop_begun : (V : Valuation) (v : Values) (b : Bool) → Begun V v b (Loop place Pause) → Goes V 3 b × Ends V 3 1 (b && true) × Goes V 4 b
loop_begun V v b h = (h.0.go, h.0.ends 1, h.1.go)

parallel_begun : (V : Valuation) (v : Values) (b : Bool) → Begun V v b (Par Nothing Pause)
    → Goes V 3 b × Ends V 3 1 (b && true) × Goes V 4 b × Ends V 4 0 (b && true) × Goes V 5 b × Ends V 5 1 (b && true)
parallel_begun V v b h = (h.0.go, h.0.ends 1, h.1.go, h.1.ends 0, h.2.go, h.2.ends 1)

trap_begun : (V : Valuation) (v : Values) (b : Bool) → Begun V v b (Trap (Exit 2)) → Goes V 3 b × Ends V 3 0 (b && true) × Goes V 4 b × Ends V 4 2 (b && true)
trap_begun V v b h = (h.0.go, h.0.ends 0, h.1.go, h.1.ends 2)

-- the signal is emitted, and tested behind that as its wire says
local_begun : (V : Valuation) (v : Values) (b : Bool) → Begun V v b (Local 7 (Par (Emit 7) (Present (Sig 7) Pause Nothing)))
    → Goes V 3 b × Goes V 4 b × Goes V 7 (b && V (StatusOf 3 (Started 2))) × Goes V 8 (b && not (V (StatusOf 3 (Started 2))))
local_begun V v b h = (h.0.go, h.2.0.go, h.2.2.1.go, h.2.2.2.go)

local_status_begun : (V : Valuation) (v : Values) (b : Bool) → Begun V v b (Local 7 (Emit 7)) → V (StatusOf 3 (Started 2)) ≡ (b && true)
local_status_begun V v b h = h.1

awake_begun : (V : Valuation) (v : Values) (b : Bool) → Begun V v b (Awake Tick Pause) → Goes V 3 b × Ends V 3 0 (b && true)
awake_begun V v b h = (h.go, h.ends 0)

-- ---- resumed at 3 where b holds, with the pauses S selected

abbrev Gone : (ℕ → Bool) → Valuation → Values → Bool → Term → Type 0
Gone S V v b p = ResumedWalked V S p 3 v b

abbrev GoesOn : Valuation → ℕ → Bool → Type 0
GoesOn V n b = V (Go n Resumed) ≡ b

abbrev EndsOn : Valuation → ℕ → ℕ → Bool → Type 0
EndsOn V n k b = V (End n Resumed k) ≡ b

nothing_resumed : (S : ℕ → Bool) (V : Valuation) (v : Values) (b : Bool) → Gone S V v b Nothing → GoesOn V 3 b × EndsOn V 3 0 (b && true)
nothing_resumed S V v b h = (h.go, h.ends 0)

pause_resumed : (S : ℕ → Bool) (V : Valuation) (v : Values) (b : Bool) → Gone S V v b Pause → GoesOn V 3 b × EndsOn V 3 0 (b && true)
pause_resumed S V v b h = (h.go, h.ends 0)

emit_resumed : (S : ℕ → Bool) (V : Valuation) (v : Values) (b : Bool) → Gone S V v b (Emit 5) → GoesOn V 3 b × EndsOn V 3 0 (b && true)
emit_resumed S V v b h = (h.go, h.ends 0)

exit_resumed : (S : ℕ → Bool) (V : Valuation) (v : Values) (b : Bool) → Gone S V v b (Exit 4) → GoesOn V 3 b × EndsOn V 3 0 (b && true)
exit_resumed S V v b h = (h.go, h.ends 0)

present_resumed : (S : ℕ → Bool) (V : Valuation) (v : Values) (b : Bool) → Gone S V v b (Present (Sig 0) Pause Pause)
    → GoesOn V 3 b × GoesOn V 4 (b && S 4) × GoesOn V 5 (b && S 5)
present_resumed S V v b h = (h.0.go, (h.1 refl).go, (h.2 refl).go)

suspend_resumed : (S : ℕ → Bool) (V : Valuation) (v : Values) (b : Bool) → Gone S V v b (Suspend (Sig 0) Pause) → GoesOn V 3 b × GoesOn V 4 (b && not (v 0))
suspend_resumed S V v b h = (h.0.go, (h.1 refl).go)

-- the second part goes on where it is selected, and begins where the first ends
sequence_resumed : (S : ℕ → Bool) (V : Valuation) (v : Values) (b : Bool) → Gone S V v b (Seq Pause Pause)
    → GoesOn V 3 b × GoesOn V 4 (b && S 4) × GoesOn V 5 (b && S 5) × (V (Go 5 (Started 5)) ≡ ((b && S 4) && true))
sequence_resumed S V v b h = (h.0.go, (h.1 refl).go, (h.2 refl).go, (h.3 refl).go)

loop_resumed : (S : ℕ → Bool) (V : Valuation) (v : Values) (b : Bool) → Gone S V v b (Loop place Pause)
    → GoesOn V 3 b × GoesOn V 4 b × (V (Go 4 (Started 4)) ≡ (b && true))
loop_resumed S V v b h = (h.0.go, (h.1 refl).go, (h.2 refl).go)

parallel_resumed : (S : ℕ → Bool) (V : Valuation) (v : Values) (b : Bool) → Gone S V v b (Par Pause Pause)
    → GoesOn V 3 b × GoesOn V 4 (b && S 4) × GoesOn V 5 (b && S 5)
parallel_resumed S V v b h = (h.0.go, (h.1 refl).go, (h.2 refl).go)

trap_resumed : (S : ℕ → Bool) (V : Valuation) (v : Values) (b : Bool) → Gone S V v b (Trap Pause) → GoesOn V 3 b × EndsOn V 3 0 (b && true) × GoesOn V 4 b
trap_resumed S V v b h = (h.0.go, h.0.ends 0, (h.1 refl).go)

local_resumed : (S : ℕ → Bool) (V : Valuation) (v : Values) (b : Bool) → Gone S V v b (Local 7 (Suspend (Sig 7) Pause))
    → GoesOn V 3 b × GoesOn V 4 b × GoesOn V 5 (b && not (V (StatusOf 3 Resumed)))
local_resumed S V v b h = (h.0.go, (h.2 refl).0.go, ((h.2 refl).1 refl).go)

-- the body of the loop begins anew and emits the signal
local_status_resumed : (S : ℕ → Bool) (V : Valuation) (v : Values) (b : Bool) → Gone S V v b (Local 7 (Loop place (Emit 7)))
    → V (StatusOf 3 Resumed) ≡ (b && true)
local_status_resumed S V v b h = h.1

awake_resumed : (S : ℕ → Bool) (V : Valuation) (v : Values) (b : Bool) → Gone S V v b (Awake Tick Pause) → GoesOn V 3 b × EndsOn V 3 0 (b && true)
awake_resumed S V v b h = (h.go, h.ends 0)
