-- Worked heads and regions, by hand: of each form the statements below it, and of each kind of wire the region.
use Rattle.std.proofs.Common.{◌≡◌, true, false, [], ◌∷◌, map, Some, None, refl}
use Rattle.base_types.specs.declared.place.Span.{Span}
use Rattle.est_kernel.specs.Terms.{Sig, Term, Nothing, Pause, Emit, Exit, Present, Suspend, Seq, Loop, Par, Trap, Local, Awake}
use Rattle.grc_graph.specs.Layers.{Resumed, Started}
use Rattle.grc_graph.specs.Wires.{Wire, Out, Go, StatusOf, End, same_wire}
use Rattle.grc_solutions_laws.specs.Heads.{head_in, head_go, region_of, RegionRests}

abbrev place : Span
place = record { start = 0; end = 1 }

-- 0 trap, 1 parallel, 2 sequence, 3 pause, 4 suspend, 5 loop, 6 signal, 7 pause, 8 present, 9 exit, 10 nothing
abbrev first : Term
first = Trap (Par (Seq Pause (Suspend (Sig 0) (Loop place (Local 4 Pause)))) (Present (Sig 1) (Exit 2) Nothing))

heads_of_first : map (head_in 0 first 0) (0 ∷ 1 ∷ 2 ∷ 3 ∷ 4 ∷ 5 ∷ 6 ∷ 7 ∷ 8 ∷ 9 ∷ 10 ∷ []) ≡ 0 ∷ 0 ∷ 2 ∷ 2 ∷ 2 ∷ 2 ∷ 2 ∷ 2 ∷ 8 ∷ 8 ∷ 8 ∷ []
heads_of_first = refl

-- 0 parallel, 1 sequence, 2 nothing, 3 trap, 4 present, 5 sequence, 6 pause, 7 emit, 8 parallel, 9 suspend, 10 loop, 11 exit, 12 signal, 13 emit
abbrev second : Term
second = Par (Seq Nothing (Trap (Present (Sig 0) (Seq Pause (Emit 2)) (Par (Suspend (Sig 0) (Loop place (Exit 2))) (Local 4 (Emit 4)))))) Pause

heads_of_second : map (head_in 0 second 0) (0 ∷ 1 ∷ 2 ∷ 3 ∷ 4 ∷ 5 ∷ 6 ∷ 7 ∷ 8 ∷ 9 ∷ 10 ∷ 11 ∷ 12 ∷ 13 ∷ 14 ∷ [])
    ≡ 0 ∷ 1 ∷ 1 ∷ 1 ∷ 1 ∷ 1 ∷ 1 ∷ 1 ∷ 1 ∷ 9 ∷ 9 ∷ 9 ∷ 12 ∷ 12 ∷ 14 ∷ []
heads_of_second = refl

-- in a statement at 3 whose head is 1
below_another_head : head_in 1 (Suspend (Sig 0) Pause) 3 3 ∷ head_in 1 (Loop place Pause) 3 3 ∷ head_in 1 (Local 4 Pause) 3 3
    ∷ head_in 1 (Awake (Sig 0) Pause) 3 4
    ∷ head_in 1 (Emit 2) 3 3 ∷ [] ≡ 1 ∷ 1 ∷ 1 ∷ 1 ∷ 1 ∷ []
below_another_head = refl

-- parts of parallels below other statements
abbrev both : Term
both = Par Pause Pause

below_parallels : map (λ p. head_in 1 p 3 5) (Suspend (Sig 0) both ∷ Loop place both ∷ Trap both ∷ Local 4 both ∷ Present (Sig 0) both Pause
    ∷ Seq both Pause ∷ [])
    ≡ 5 ∷ 5 ∷ 5 ∷ 5 ∷ 5 ∷ 5 ∷ []
below_parallels = refl

below_second_parallels : map (λ p. head_in 1 p 3 6) (Present (Sig 0) Pause both ∷ Seq Pause both ∷ Par Pause both ∷ []) ≡ 6 ∷ 6 ∷ 6 ∷ []
below_second_parallels = refl

wires_of_heads : head_go first 7 Resumed ∷ head_go first 7 (Started 2) ∷ [] ≡ Go 2 Resumed ∷ Go 2 (Started 2) ∷ []
wires_of_heads = refl

regions : map (region_of first) (Out 0 ∷ Go 0 Resumed ∷ Go 2 Resumed ∷ Go 3 Resumed ∷ Go 2 (Started 2) ∷ Go 3 (Started 2) ∷ StatusOf 6 Resumed
    ∷ StatusOf 6 (Started 2) ∷ End 7 Resumed 1 ∷ End 8 Resumed 2 ∷ End 9 (Started 1) 2 ∷ [])
    ≡ None ∷ None ∷ None ∷ Some (Go 2 Resumed) ∷ None ∷ Some (Go 2 (Started 2)) ∷ None ∷ None ∷ Some (Go 2 Resumed) ∷ Some (Go 8 Resumed)
    ∷ Some (Go 1 (Started 1)) ∷ []
regions = refl

at_rest : RegionRests first (λ w. false) (End 7 Resumed 1)
at_rest head is rests = refl

-- the end alone is true
not_at_rest : RegionRests first (same_wire (End 7 Resumed 1)) (End 7 Resumed 1) → ⊥
not_at_rest h = differ (h (Go 2 Resumed) refl refl)
  where
    differ : true ≡ false → ⊥
    differ e = cc

-- a wire of no region may be true
of_no_region : RegionRests first (same_wire (Out 0)) (Out 0)
of_no_region head is rests = absurd (differ head is)
  where
    differ : (head : Wire) → None ≡ Some head → ⊥
    differ head e = cc
