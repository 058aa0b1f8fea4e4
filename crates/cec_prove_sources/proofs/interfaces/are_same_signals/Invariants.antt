use Rattle.std.proofs.Common.{◌≡◌, drop, map, nat_eq}
use Rattle.base_types.specs.declared.indices.SigId.{SigId}
use Rattle.std.specs.Cmp.Lexicographic.{pointwise}
use Rattle.cec_prove_sources.proofs.interfaces.are_same_signals.Given as goal

abbrev pub invariant-loop-k : goal.invariant-loop-k
invariant-loop-k l =
    pointwise nat_eq (map (λ (s : SigId). s.0) (drop l.k l.left)) (map (λ (s : SigId). s.0) (drop l.k l.right))
    ≡ pointwise nat_eq (map (λ (s : SigId). s.0) l.left) (map (λ (s : SigId). s.0) l.right)
