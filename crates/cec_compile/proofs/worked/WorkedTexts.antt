-- Worked texts of cycles, and refusals of passes, by hand.
use Rattle.std.proofs.Common.{◌≡◌, [], ◌∷◌, map, codes, refl, arith}
use Rattle.std.specs.Fmt.{digits}
use Rattle.est_front.specs.declared.refusal.Quantity.TheVariants as quantities
use Rattle.est_front.specs.declared.refusal.SourceRefusal.TheVariants as front
use Rattle.grc_build.specs.declared.refusal.BuildFault.TheVariants as building
use Rattle.grc_layout.specs.declared.refusal.CopyFault.TheVariants as copying
use Rattle.grc_graph.specs.Edges.{edge}
use Rattle.grc_graph.specs.WireNames.{Resumed, Started, Out, Go, StatusOf, End}
use Rattle.grc_graph.specs.Wires as wires
use Rattle.cec_compile.specs.declared.refusal.Limit.TheVariants as limits
use Rattle.cec_compile.specs.declared.refusal.Refusal.TheVariants.{Limit, NoMemory}
use Rattle.cec_compile.specs.Cycles.{IsCycle, cycle_text}
use Rattle.cec_compile.specs.Limits.{limit_of, refusal_of, copying_refusal, building_refusal}

of_cycles : cycle_text [] ∷ cycle_text (Out (codes "O") ∷ []) ∷ cycle_text (Go (0 ∷ 1 ∷ []) Resumed ∷ StatusOf [] (Started []) (codes "S")
    ∷ End (1 ∷ []) (Started (1 ∷ [])) 2 ∷ []) ∷ []
    ≡ [] ∷ codes "out O" ∷ codes "go .0.1 r -> st . s . S -> end .1 s .1 2" ∷ []
unfolding digits
of_cycles = refl

of_two : IsCycle (edge (wires.Out 0) (wires.Out 1) ∷ edge (wires.Out 1) (wires.Out 0) ∷ []) (wires.Out 0 ∷ wires.Out 1 ∷ [])
of_two = ((0, omega arith, refl), (1, omega arith, refl))

no_cycle_of_none : IsCycle (edge (wires.Out 0) (wires.Out 1) ∷ []) [] → ⊥
no_cycle_of_none h = h

of_quantities : map limit_of (quantities.Nesting ∷ quantities.Statements ∷ quantities.Signals ∷ quantities.Kernel ∷ quantities.Height ∷ quantities.Traps ∷ [])
    ≡ limits.Nesting ∷ limits.Statements ∷ limits.Signals ∷ limits.Kernel ∷ limits.Height ∷ limits.Traps ∷ []
of_quantities = refl

of_passes : refusal_of (front.Limit quantities.Kernel) ∷ refusal_of front.NoMemory ∷ copying_refusal copying.TooManyInstances ∷ copying_refusal copying.NoMemory
    ∷ building_refusal building.TooManyWires ∷ building_refusal building.NoMemory ∷ []
    ≡ Limit limits.Kernel ∷ NoMemory ∷ Limit limits.Instances ∷ NoMemory ∷ Limit limits.Wires ∷ NoMemory ∷ []
of_passes = refl
