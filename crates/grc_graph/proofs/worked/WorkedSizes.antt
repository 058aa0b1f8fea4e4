-- Worked counts, by hand: the gates of each form of formula, the live test nodes of each form of statement, and the size of a small graph.
use Rattle.std.proofs.Common.{◌≡◌, ℕ, true, List, [], ◌∷◌, length, map, codes, refl, ap, arith, Vec, Global}
use Rattle.base_types.specs.declared.indices.WireId.{WireId}
use Rattle.base_types.specs.declared.place.Span.{Span}
use Rattle.est_kernel.specs.Terms.{Tick, Sig, And, Term, Nothing, Pause, Emit, Exit, Present, Suspend, Seq, Loop, Par, Trap, Local, Awake}
use Rattle.grc_graph.specs.declared.formulas.Formula.TheVariants as formulas
use Rattle.grc_graph.specs.GateCosts.{any_cost, cost_of}
use Rattle.grc_graph.specs.GraphSizes.{graph_size, live_tests}
use Rattle.grc_graph.specs.Layers.{Resumed, Started}
use Rattle.grc_graph.specs.Wires.{listed, codes_below}

-- ---- gates

some_wires : map any_cost (0 ∷ 1 ∷ 2 ∷ 5 ∷ []) ≡ 0 ∷ 0 ∷ 1 ∷ 4 ∷ []
some_wires = refl

without_a_gate : map cost_of (formulas.Const true ∷ formulas.Boot ∷ formulas.Input (record { 0 = 3 }) ∷ formulas.Wire (record { 0 = 3 })
    ∷ formulas.Selected (record { 0 = 3 }) ∷ formulas.Upto (record { 0 = 3 }) 2 ∷ formulas.Kept (record { 0 = 3 }) ∷ formulas.Held (record { 0 = 3 }) ∷ [])
    ≡ 0 ∷ 0 ∷ 0 ∷ 0 ∷ 0 ∷ 0 ∷ 0 ∷ 0 ∷ []
without_a_gate = refl

-- two negations around an or of three wires and of a conjunction, whose parts lie anywhere
of_operators : (v : Vec WireId Global) → length v.items ≡ 3 → (p q r s t u : _)
    → cost_of (formulas.Not' p (formulas.Not' q (formulas.Or' r (formulas.AnyOf v) s (formulas.And' t formulas.Boot u (formulas.Const true))))) ≡ 6
of_operators v three p q r s t u = let e = ap any_cost three in omega (arith, e)

-- each part of a conjunction and of a disjunction counts
of_each_part : (p q r : _) → cost_of (formulas.And' p (formulas.Not' q formulas.Boot) r formulas.Boot)
    ∷ cost_of (formulas.And' p formulas.Boot r (formulas.Not' q formulas.Boot))
    ∷ cost_of (formulas.Or' p (formulas.Not' q formulas.Boot) r formulas.Boot) ∷ cost_of (formulas.Or' p formulas.Boot r (formulas.Not' q formulas.Boot)) ∷ []
    ≡ 2 ∷ 2 ∷ 2 ∷ 2 ∷ []
of_each_part p q r = refl

-- ---- test nodes

abbrev place : Span
place = record { start = 0; end = 1 }

abbrev tests : Term → List ℕ
tests p = live_tests p Resumed ∷ live_tests p (Started 0) ∷ []

of_statements : map tests (Nothing ∷ Pause ∷ Emit 2 ∷ Exit 2 ∷ Present (And (Sig 0) Tick) Pause Pause ∷ Suspend (And (Sig 0) Tick) Pause ∷ Seq Pause Pause
    ∷ Loop place Pause ∷ Par Pause Pause ∷ Trap Pause ∷ Local 2 Pause ∷ Awake (And (Sig 0) Tick) Pause ∷ [])
    ≡ (0 ∷ 0 ∷ []) ∷ (0 ∷ 0 ∷ []) ∷ (0 ∷ 0 ∷ []) ∷ (0 ∷ 0 ∷ []) ∷ (0 ∷ 3 ∷ []) ∷ (3 ∷ 0 ∷ []) ∷ (0 ∷ 0 ∷ [])
    ∷ (0 ∷ 0 ∷ []) ∷ (0 ∷ 0 ∷ []) ∷ (0 ∷ 0 ∷ []) ∷ (0 ∷ 0 ∷ []) ∷ (0 ∷ 0 ∷ []) ∷ []
of_statements = refl

-- ---- a graph: the wires `go` and `end` of each of two started instances, and a test of three nodes
of_a_graph : graph_size (record {
  name = codes "T";
  signals = codes "A" ∷ [];
  inputs = 1;
  both = 0;
  outputs = 0;
  relations = [];
  body = Present (And (Sig 0) Tick) Nothing Nothing;
}) ≡ 9
unfolding listed codes_below
of_a_graph = refl
